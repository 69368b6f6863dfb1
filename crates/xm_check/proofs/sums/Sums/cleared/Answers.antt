use Rattle.std.proofs.Common.{◌≡◌, List, [], ap, sym, ◌∙◌, ℤ, ℕ, pos, length, subst, replicate}
use Rattle.std.specs.List.{refill}
use Rattle.xm_check.proofs.Adding.{sums_of}
use Rattle.xm_check.proofs.Touching.{clear_is, none_touched}
use Rattle.xm_check.specs.Inner.Touched.{AreTouched, cleared}
use Rattle.xm_model.specs.Lending.{refill-full}
use Rattle.xm_proof.specs.Sums.{Sums, no_sums}
use Rattle.xm_check.proofs.sums.Sums.cleared.Goals as goal

pub invariant_of-result : goal.invariant_of-result
invariant_of-result c =
    let items = c.self.inside.columns.items in
    let size : length c.clear.new.columns ≡ length items = c.clear.auto.columns ∙ ap length c.as_mut_slice.ensures.value in
    let full : refill (length items) items c.clear.new.columns ≡ c.clear.new.columns = refill-full (length items) items c.clear.new.columns size in
    let zeros : c.clear.new.columns ≡ replicate (length items) (pos 0) =
    c.clear.ensures ∙ ap (λ (ts : List ℕ). cleared ts c.as_mut_slice.result.now) c.as_slice.ensures ∙ ap (cleared c.self.inside.touched.items) c.as_mut_slice.ensures.value ∙ clear_is c.self.inside.touched.items items c.self.invariant in
    let none : c.truncate.new.self.items ≡ [] = c.truncate.ensures.items in
    subst (λ (cs : List ℤ). AreTouched c.truncate.new.self.items cs) (sym (full ∙ zeros)) (subst (λ (ts : List ℕ). AreTouched ts (replicate (length items) (pos 0))) (sym none) (none_touched (length items)))

pub returns : goal.returns
returns c =
    let items = c.self.inside.columns.items in
    let size : length c.clear.new.columns ≡ length items = c.clear.auto.columns ∙ ap length c.as_mut_slice.ensures.value in
    let full : refill (length items) items c.clear.new.columns ≡ c.clear.new.columns = refill-full (length items) items c.clear.new.columns size in
    let zeros : c.clear.new.columns ≡ replicate (length items) (pos 0) =
    c.clear.ensures ∙ ap (λ (ts : List ℕ). cleared ts c.as_mut_slice.result.now) c.as_slice.ensures ∙ ap (cleared c.self.inside.touched.items) c.as_mut_slice.ensures.value ∙ clear_is c.self.inside.touched.items items c.self.invariant in
    ap (λ (cs : List ℤ). sums_of cs (pos 0)) (full ∙ zeros) ∙ ap (λ (s : Sums). no_sums (length s.columns)) c.self.view_is
