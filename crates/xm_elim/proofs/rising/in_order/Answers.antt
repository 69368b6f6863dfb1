use Rattle.std.proofs.Common.{◌≡◌, ℕ, ◌<◌, ◌^◌, ◌∙◌, All, List, length, sym, subst}
use Rattle.std.specs.List.{refill}
use Rattle.std.specs.List.Sorted.{IsNonDecreasing, IsPermutation}
use Rattle.std.proofs.lemmas.List.Sorted.{All-permutation, IsNonDecreasingBy-from_sort}
use Rattle.xm_elim.specs.Inner.Columns.{IsRisingOf}
use Rattle.xm_elim.proofs.Ordering.{of_permutation}
use Rattle.xm_elim.proofs.Stepping.{refilled}
use Rattle.xm_elim.proofs.rising.in_order.Goals as goal

-- what is read again is what was sorted
read_again : (given lent sorted read : List ℕ) → lent ≡ given → length sorted ≡ length lent → read ≡ refill (length given) given sorted → read ≡ sorted
read_again given lent sorted read is len same = same ∙ refilled given lent sorted is len

pub each_once-requires-clause-few : goal.each_once-requires-clause-few
each_once-requires-clause-few c =
    let moved = subst (λ (l : List ℕ). IsPermutation l c.sort_unstable.new.self) c.as_mut_slice.ensures.value c.sort_unstable.ensures.permutation in
    subst (All (λ p. p < 2 ^ 20)) (sym (read_again _ _ _ _ c.as_mut_slice.ensures.value c.sort_unstable.ensures.len c.as_slice-2.ensures))
    (All-permutation (λ p. p < 2 ^ 20) c.args.places.now.items c.sort_unstable.new.self moved c.requires)

pub each_once-requires-clause-sorted : goal.each_once-requires-clause-sorted
each_once-requires-clause-sorted c =
    subst IsNonDecreasing (sym (read_again _ _ _ _ c.as_mut_slice.ensures.value c.sort_unstable.ensures.len c.as_slice-2.ensures))
    (IsNonDecreasingBy-from_sort (λ x. x) c.sort_unstable.new.self c.sort_unstable.ensures.sorted)

pub returns : goal.returns
returns c =
    let moved = subst (λ (l : List ℕ). IsPermutation l c.sort_unstable.new.self) c.as_mut_slice.ensures.value c.sort_unstable.ensures.permutation in
    of_permutation c.args.places.now.items c.sort_unstable.new.self c.in_ok-once.once.items moved
    (subst (λ (l : List ℕ). IsRisingOf l c.in_ok-once.once.items) (read_again _ _ _ _ c.as_mut_slice.ensures.value c.sort_unstable.ensures.len c.as_slice-2.ensures) c.in_ok-once.ensures)
