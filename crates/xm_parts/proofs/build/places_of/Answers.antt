use Rattle.std.proofs.Common.{◌≡◌, ◌+◌, ℕ, length, length-append, get_or, set, ap, ◌∙◌, arith, Some}
use Rattle.std.proofs.lemmas.List.{length-set}
use Rattle.xm_model.specs.Lending.{refill-full}
use Rattle.xm_parts.proofs.Building.{counts_now, place_few}
use Rattle.xm_parts.proofs.Parting.{slice_get-found}
use Rattle.xm_parts.proofs.Pushing.{push_each}
use Rattle.xm_parts.specs.Kept.{channel_place, label_at}
use Rattle.xm_parts.specs.Partition.{lies_in}
use Rattle.xm_parts.proofs.build.places_of.Goals as goal

pub count_one-place-requires-clause-few : goal.count_one-place-requires-clause-few
count_one-place-requires-clause-few c =
    let label = label_at c.args.labels.now in
    let inside = c.requires.labels c.loop-c.c 0 c.loop-c-test.true in
    let is = c.loop-c.invariant.counts (label c.loop-c.c) inside in
    let few = place_few (lies_in label (label c.loop-c.c)) c.loop-c.c in
    let all = c.requires.few in let below = c.loop-c-test.true in
    rw c.as_mut_slice.ensures.value (omega arith)

pub loop-c-preserved : goal.loop-c-preserved
loop-c-preserved c =
    let label = label_at c.args.labels.now in
    let inside = c.requires.labels c.loop-c.c 0 c.loop-c-test.true in
    let size = c.loop-c.invariant.size in
    let counts : c.count_one-place.new.counts ≡ set c.loop-c.counts.items (label c.loop-c.c) (get_or c.loop-c.counts.items (label c.loop-c.c) 0 + 1) = rw (← c.as_mut_slice.ensures.value) c.count_one-place.ensures.counts in
    let value : c.count_one-place.result ≡ get_or c.loop-c.counts.items (label c.loop-c.c) 0 = rw (← c.as_mut_slice.ensures.value) c.count_one-place.ensures.value in
    let long : length c.count_one-place.new.counts ≡ length c.loop-c.counts.items = ap length counts ∙ length-set c.loop-c.counts.items (label c.loop-c.c) (get_or c.loop-c.counts.items (label c.loop-c.c) 0 + 1) in
    let full = refill-full (length c.loop-c.counts.items) c.loop-c.counts.items c.count_one-place.new.counts long in
    record {
      whole = rw c.in_ok-push.ensures.ok (simp length-append (let w = c.loop-c.invariant.whole in omega arith));
      at = rw c.in_ok-push.ensures.ok (push_each (λ (k x : ℕ). x ≡ channel_place label (label k) k) c.loop-c.places.items c.count_one-place.result c.loop-c.c c.loop-c.invariant.whole c.loop-c.invariant.at (value ∙ c.loop-c.invariant.counts (label c.loop-c.c) inside));
      size = rw full (long ∙ size);
      counts = λ q below. rw (full, counts) (counts_now label c.loop-c.counts.items c.loop-c.c (omega arith) (λ r h. c.loop-c.invariant.counts r (omega arith)) q (omega arith));
    }

pub returns : goal.returns
returns c = record {
  whole = (let w = c.loop-c.invariant.whole in let e = c.loop-c-test.false in let u = c.loop-c.auto.c-end in omega arith);
  at = λ k below.
      let found = slice_get-found c.loop-c.places.items k (let w = c.loop-c.invariant.whole in let e = c.loop-c-test.false in let u = c.loop-c.auto.c-end in omega arith) in
      found.1 ∙ ap Some (c.loop-c.invariant.at k found.0 found.1);
}
