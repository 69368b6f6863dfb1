-- The invariants of a printed text hold on the runs of the document's net, and that text is the output of `inv`.
use Rattle.std.proofs.Common.{◌≡◌, ℕ, ◌<◌, List, [], ◌∷◌, ◌∙◌, ap, map, refl, subst, sym, pos, All}
use Rattle.std.proofs.lemmas.List.Elements.{All-cons, All-head, All-nil, All-tail}
use Rattle.xm_commands.specs.Inner.Prepared.{IsPrepared}
use Rattle.xm_commands.specs.Output.{AreInvariants, IsDesignOf, IsOutput, of_inv}
use Rattle.xm_commands.specs.PrintedInvariants.{HoldOnRuns, PrintedHold, PrintsHolding}
use Rattle.xm_commands.specs.declared.command.Command.TheVariants as command
use Rattle.xm_commands.specs.declared.command.Outcome.{Outcome}
use Rattle.xm_commands.specs.declared.command.Outcome.TheVariants as outcome
use Rattle.xm_commands.specs.declared.prepared.Prepared.{Prepared}
use Rattle.xm_design.specs.Designed.{Designed}
use Rattle.xm_flow.specs.Holding.{LemmasHold, count_columns, count_value, pair_count, point, queue_pair_count}
use Rattle.xm_flow.specs.ValidLemma.{IsValid, Lemma, lemma_of}
use Rattle.xm_flow.specs.declared.invariant.Invariant.{Invariant}
use Rattle.xm_model.specs.Naming.{naming_of}
use Rattle.xm_model.specs.Net.{Network}
use Rattle.xm_model.specs.Run.{IsRun, TapeFits}
use Rattle.xm_netlist.specs.Doc.{Doc}
use Rattle.xm_report.specs.Invariants.{invariant_text}
use Rattle.xm_rows.specs.Points.{Meets}
use Rattle.xm_rows.specs.Row.{SparseRow}

all_meet : (P : Lemma → Type 0) (Q : Lemma → Type 0) (ls : List Lemma) → ((l : Lemma) → Q l → P l) → All Q ls → All P ls
all_meet P Q [] h all = All-nil P
all_meet P Q (l ∷ ls) h all = All-cons P l ls (h l (All-head Q l ls all)) (all_meet P Q ls h (All-tail Q l ls all))

pub hold : LemmasHold → (design : Designed) (lemmas : List Lemma) (doc : Doc) → IsDesignOf doc design → AreInvariants design lemmas → HoldOnRuns doc.net design lemmas
hold law design lemmas doc is it cycles w s φ tape run t within =
    all_meet (λ l. Meets l.row (pos 1) (point (count_columns design) (count_value (s t)))) (IsValid (pair_count design) (queue_pair_count design) it.rows.rows) lemmas
    (λ l valid. law design it.rows.rows l cycles w s φ is.designed it.has_flow.is_flow.rows valid (subst (λ (n : Network). TapeFits n cycles w) (sym is.net) tape) (subst (λ (n : Network). IsRun n cycles w s φ) (sym is.net) run) t within) it.basis.valid

pub printed_hold : LemmasHold → PrintedHold
printed_hold law bytes text turned output = by_output output
  where
    by_output : {it : Outcome} {said : List ℕ} → IsOutput bytes command.Inv it said → PrintsHolding bytes said
    by_output (of_inv doc design lemmas read is it) = record {
      doc = doc;
      design = design;
      lemmas = lemmas;
      read = read;
      is_design = is;
      printed = refl;
      hold = hold law design lemmas doc is it;
    }

-- ---- what was written

pub invariants_printed : (bytes : List ℕ) (it : Prepared) (lemmas : List Lemma) → IsPrepared bytes it → AreInvariants it.design lemmas → (text : List ℕ) → text ≡ invariant_text (naming_of it.names) it.design lemmas
    → IsOutput bytes command.Inv outcome.Yes text
invariants_printed bytes it lemmas is are text same =
    subst (IsOutput bytes command.Inv outcome.Yes) (sym (same ∙ ap (λ names. invariant_text names it.design lemmas) is.names)) (of_inv is.doc it.design lemmas is.read is.design are)

-- their columns are queue pairs
pub columns_within : (moves counts : ℕ) (flow : List SparseRow) (invariants : List Invariant) → All (IsValid moves counts flow) (map lemma_of invariants) → All (λ it. All (λ e. e.column < counts) it.row.entries) invariants
columns_within moves counts flow [] all = All-nil (λ (it : Invariant). All (λ e. e.column < counts) it.row.entries)
columns_within moves counts flow (l ∷ ls) all =
    All-cons (λ (it : Invariant). All (λ e. e.column < counts) it.row.entries) l ls (All-head (IsValid moves counts flow) (lemma_of l) (map lemma_of ls) all).within
    (columns_within moves counts flow ls (All-tail (IsValid moves counts flow) (lemma_of l) (map lemma_of ls) all))
