-- The lines of the rounds of a run, joined.
use Rattle.std.proofs.Common.{[], ◌≡◌, ◌-◌, ◌≤◌, ◌++◌, ◌∙◌, ℕ, List, ap, ap₂, arith, length, refl, subst, sym}
use Rattle.std.proofs.lemmas.List.{length-map}
use Rattle.xm_model.specs.ListView.{ListView}
use Rattle.xm_model.specs.Naming.{Naming, naming_of}
use Rattle.xm_model.specs.declared.naming.Names.{Names}
use Rattle.xm_model.specs.Signals.{Signals}
use Rattle.xm_trace.specs.Labels.{AreLabelsOf, Labelled}
use Rattle.xm_trace.specs.Lemmas.Joining.{lines_joined}
use Rattle.xm_trace.specs.Rounds.{RoundsJoin}
use Rattle.xm_trace.specs.Text.{end_text, move_label, round_lines, run_text}

-- a round behind the first cycles
pub joined : RoundsJoin → (names : Naming) (φ : ℕ → Signals) (from to : ℕ) → from ≤ to → round_lines names φ 0 from ++ round_lines names φ from (to - from) ≡ round_lines names φ 0 to
joined join names φ from to below = lines_joined join names φ from from (to - from) to _ refl (omega arith) refl

-- what follows the lines of all cycles
pub ended : (names : Naming) (φ : ℕ → Signals) {from n cycles : ℕ} {end text : List ℕ} → from ≡ n → cycles ≡ from → end ≡ end_text names φ cycles → text ≡ run_text names φ n → round_lines names φ 0 from ++ end ≡ text
ended names φ all had made is = ap₂ (λ (x y : List ℕ). x ++ y) (ap (round_lines names φ 0) all) (made ∙ ap (end_text names φ) (had ∙ all)) ∙ sym is

-- labels that stayed are those of the names
pub are_still : (names : Naming) (labels now : Labelled) → now ≡ labels → AreLabelsOf names labels → AreLabelsOf names now
are_still names labels now same are = subst (λ (them : Labelled). AreLabelsOf names them) (sym same) are

-- there is a label for each name of a channel
pub many_labels : (names : Names) (labels : Labelled) → AreLabelsOf (naming_of names) labels → length labels.channels ≡ length names.channels.items
many_labels names labels are =
    ap length are.channels
    ∙ length-map (naming_of names).channels move_label
    ∙ length-map names.channels.items (λ (text : ListView ℕ). text.items)

-- the lines of a round, in a buffer that was empty
pub lines_alone : (names : Naming) (φ : ℕ → Signals) (from come to : ℕ) (begun lines bytes : List ℕ) → begun ≡ [] → come ≡ to → bytes ≡ lines → lines ≡ begun ++ round_lines names φ from (come - from)
    → bytes ≡ round_lines names φ from (to - from)
lines_alone names φ from come to begun lines bytes empty all lent made =
    lent ∙ made ∙ ap₂ (λ (x : List ℕ) (i : ℕ). x ++ round_lines names φ from (i - from)) empty all
