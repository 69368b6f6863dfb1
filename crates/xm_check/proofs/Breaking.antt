-- Lemmas are tested in order, up to the first that breaks.
use Rattle.std.proofs.Common.{◌≡◌, ℕ, ◌+◌, ◌<◌, ◌≤◌, List, [], ◌∷◌, ◌++◌, length, get_or, map, take, Some, refl, sym, ◌∙◌, ap, subst, All, pos, ◌<ℤ◌, Bool, false, IsTrue, Option, None, IfNone}
use Rattle.std.specs.Prelude.{option_map}
use Rattle.std.proofs.lemmas.List.{map_more, take-map, take_all}
use Rattle.std.proofs.lemmas.Option.{slice_get-get_or, slice_get-map}
use Rattle.xm_check.specs.Break.{IsFirstLemmaBreak, IsInRange, LemmaBreaks, differs, leaves, out_of_range}
use Rattle.xm_check.specs.Inner.Queues.{IsOver}
use Rattle.xm_design.specs.Designed.{Designed}
use Rattle.xm_flow.specs.FlowRows.{Flow}
use Rattle.xm_flow.specs.Holding.{IsFlowOf, pair_count}
use Rattle.xm_flow.specs.ValidLemma.{IsValid, Lemma, TestFits, lemma_of}
use Rattle.xm_flow.specs.declared.invariant.Invariant.{Invariant}
use Rattle.xm_proof.specs.Valid.{AreLemmas, IsLemma}
use Rattle.xm_proof.specs.declared.verdict.Reason.{Reason}
use Rattle.xm_proof.specs.declared.verdict.Reason.TheVariants as reason
use Rattle.xm_rows.specs.Row.{SparseRow}

module _ (it : Designed) (rows : List SparseRow) where
  lemmas_push : (ls : List Lemma) (l : Lemma) → AreLemmas it rows ls → IsLemma it rows l → AreLemmas it rows (ls ++ l ∷ [])
  lemmas_push [] l are is = (is, tt)
  lemmas_push (m ∷ ls) l are is = (are.0, lemmas_push ls l are.1 is)

  pub one_more : (ls : List Invariant) (k : ℕ) (l : Invariant) → k < length ls → l ≡ get_or ls k l →
      AreLemmas it rows (map lemma_of (take k ls)) → IsLemma it rows (lemma_of l) → AreLemmas it rows (map lemma_of (take (k + 1) ls))
  one_more ls k l within at are is =
      subst (AreLemmas it rows) (sym (map_more lemma_of ls k l within))
      (lemmas_push (map lemma_of (take k ls)) (lemma_of (get_or ls k l)) are (subst (λ (m : Invariant). IsLemma it rows (lemma_of m)) at is))

  pub all_of_them : (ls : List Invariant) (k : ℕ) → length ls ≤ k → AreLemmas it rows (map lemma_of (take k ls)) → AreLemmas it rows (map lemma_of ls)
  all_of_them ls k past are = subst (λ (ms : List Invariant). AreLemmas it rows (map lemma_of ms)) (take_all k ls past) are

  pub breaks_first : (ls : List Invariant) (k : ℕ) (l : Invariant) (why : Reason) → k < length ls → l ≡ get_or ls k l →
      AreLemmas it rows (map lemma_of (take k ls)) → LemmaBreaks it rows (lemma_of l) why → IsFirstLemmaBreak it rows (map lemma_of ls) k why
  breaks_first ls k l why within at are breaks = record {
    lemma = lemma_of l;
    at = slice_get-map lemma_of ls k ∙ ap (option_map lemma_of) (slice_get-get_or ls k l within) ∙ ap (λ (m : Invariant). Some (lemma_of m)) (sym at);
    breaks = breaks;
    before = subst (AreLemmas it rows) (sym (take-map lemma_of k ls)) are;
  }

module _ (it : Designed) (flow : Flow) (is : IsFlowOf it flow) (l : Lemma) (positive : pos 0 <ℤ l.scale) where
  pub parts_break : ¬ All (λ p. p.flow < length flow.rows) l.parts → LemmaBreaks it flow.rows l reason.Lemma
  parts_break none = out_of_range positive (λ r. none r.places)

  pub columns_break : ¬ IsOver flow.counts l.row.entries → LemmaBreaks it flow.rows l reason.Lemma
  columns_break none = out_of_range positive (λ r. none (subst (λ (n : ℕ). IsOver n l.row.entries) (sym is.counts) r.within))

  in_range : All (λ p. p.flow < length flow.rows) l.parts → IsOver flow.counts l.row.entries → IsInRange it flow.rows l
  in_range places over = record { places = places; within = subst (λ (n : ℕ). IsOver n l.row.entries) is.counts over }

  pub leaves_break : All (λ p. p.flow < length flow.rows) l.parts → IsOver flow.counts l.row.entries → ¬ TestFits flow.rows l →
      LemmaBreaks it flow.rows l reason.Overflow
  leaves_break places over never = leaves positive (in_range places over) never

  pub differs_break : All (λ p. p.flow < length flow.rows) l.parts → IsOver flow.counts l.row.entries → TestFits flow.rows l →
      ¬ IsValid flow.moves flow.counts flow.rows l → LemmaBreaks it flow.rows l reason.Lemma
  differs_break places over fits never =
      differs positive (in_range places over) fits (λ valid. never
      (subst (λ (n : ℕ). IsValid n flow.counts flow.rows l) (sym is.moves) (subst (λ (n : ℕ). IsValid (pair_count it) n flow.rows l) (sym is.counts) valid)))

pub never : {A : Type 0} (b : Bool) → IsTrue b → b ≡ false → A
never b is not = absurd cc

pub of_none : {A : Type 0} (o : Option A) (P : Type 0) → ((x : A) → o ≡ Some x → ⊥) → IfNone o P → P
of_none None P not h = h
of_none (Some x) P not h = absurd (not x refl)
