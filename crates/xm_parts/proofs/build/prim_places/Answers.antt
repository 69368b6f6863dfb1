use Rattle.std.proofs.Common.{◌≡◌, ℕ, length, length-append, map, Some, ap, sym, ◌∙◌, arith}
use Rattle.std.specs.Prelude.{cond}
use Rattle.std.proofs.lemmas.List.{length-map}
use Rattle.xm_model.specs.Component.{component_of}
use Rattle.xm_parts.proofs.Building.{place_few, place_on}
use Rattle.xm_parts.proofs.Parting.{slice_get-found}
use Rattle.xm_parts.proofs.Pushing.{push_each}
use Rattle.xm_parts.specs.Kept.{label_at}
use Rattle.xm_parts.specs.Partition.{touches_at}
use Rattle.xm_parts.specs.Passing.{place}
use Rattle.xm_parts.proofs.build.prim_places.Goals as goal

pub overflow_add-below : goal.overflow_add-below
overflow_add-below c =
    let net = c.args.net.now in let label = label_at c.args.labels.now in
    let is = c.loop-i.invariant.below in let few = place_few (touches_at net label c.args.p) c.loop-i.i in
    let prims = c.prims.ensures.net.limits.prims in
    let n : length c.as_slice.result.now ≡ length net.prims = sym (length-map c.as_slice.result.now component_of) ∙ ap length (ap (map component_of) c.as_slice.ensures ∙ c.prims.ensures.prims) in
    let one = c.touch_count-below.ensures.few in let below = c.loop-i-test.true in
    omega arith

pub loop-i-preserved : goal.loop-i-preserved
loop-i-preserved c =
    let net = c.args.net.now in let label = label_at c.args.labels.now in
    let count : c.touch_count-below.result ≡ cond (touches_at net label c.args.p c.loop-i.i) 1 0 = rw c.prim.ensures c.touch_count-below.ensures.count in
    let more = place_on (touches_at net label c.args.p) c.loop-i.i in
    record {
      whole = rw c.in_ok-push.ensures.ok (simp length-append (let w = c.loop-i.invariant.whole in omega arith));
      at = rw c.in_ok-push.ensures.ok (push_each (λ (k x : ℕ). x ≡ place (touches_at net label c.args.p) k) c.loop-i.made.items c.loop-i.below c.loop-i.i c.loop-i.invariant.whole c.loop-i.invariant.at c.loop-i.invariant.below);
      below = (let b = c.loop-i.invariant.below in omega arith);
    }

pub returns : goal.returns
returns c =
    let net = c.args.net.now in
    let n : length c.as_slice.result.now ≡ length net.prims = sym (length-map c.as_slice.result.now component_of) ∙ ap length (ap (map component_of) c.as_slice.ensures ∙ c.prims.ensures.prims) in
    let w = c.loop-i.invariant.whole in let e = c.loop-i-test.false in let u = c.loop-i.auto.i-end in
    record {
      whole = omega arith;
      at = λ k below. (let found = slice_get-found c.loop-i.made.items k (omega arith) in found.1 ∙ ap Some (c.loop-i.invariant.at k found.0 found.1));
    }
