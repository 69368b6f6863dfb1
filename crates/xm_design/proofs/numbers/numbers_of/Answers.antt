use Rattle.std.proofs.Common.{◌≡◌, ◌+◌, ap, sym, ◌∙◌, length, map, arith}
use Rattle.std.proofs.lemmas.List.{length-map}
use Rattle.xm_colours.specs.Family.{colours_at}
use Rattle.xm_colours.specs.Pairs.{queue_pairs_at}
use Rattle.xm_design.specs.Lemmas.Components.{component_at}
use Rattle.xm_design.proofs.Counting.{few_more, numbers_more, numbers_none, oracles_few, oracles_more, oracles_none, total_more, total_none}
use Rattle.xm_design.specs.Numbers.{pairs_below}
use Rattle.xm_model.specs.Component.{Component, component_of}
use Rattle.xm_model.specs.Views.{oracles_below}
use Rattle.xm_design.proofs.numbers.numbers_of.Goals as goal

pub loop-p-init : goal.loop-p-init
loop-p-init c =
    let ms = map component_of c.as_slice-prims.result.now in
    let none = total_none (λ (m : Component). length (queue_pairs_at (colours_at c.args.colours.now) 0 m)) ms in
    record {
      count = sym (oracles_none ms);
      oracles = numbers_none (oracles_below ms) _ c.new-oracles.ensures.items;
      below = sym none;
      pairs = numbers_none (pairs_below (colours_at c.args.colours.now) ms) _ c.new-pairs.ensures.items;
      few = λ k h. (let first : k ≡ 0 = omega arith in rw first (omega (arith, none)));
    }

pub overflow_add-oracles_below : goal.overflow_add-oracles_below
overflow_add-oracles_below c =
    let ms = map component_of c.as_slice-prims.result.now in
    let same : length c.as_slice-prims.result.now ≡ length c.args.net.now.prims = ap length c.as_slice-prims.ensures ∙ sym (length-map c.prims.result.now.items component_of) ∙ ap length c.prims.ensures.prims in
    let there = component_at c.as_slice-prims.result.now c.loop-p.p _ c.loop-p-test.true c.index-prims-p.is in
    let more = oracles_more ms c.loop-p.p _ there in
    let low = oracles_few ms (c.loop-p.p + 1) in
    omega (arith, c.prims.ensures.net.limits.prims, same, more, low, c.loop-p.invariant.count, c.oracle_count-oracles_below.ensures, c.loop-p-test.true)

pub overflow_add-pairs_below : goal.overflow_add-pairs_below
overflow_add-pairs_below c =
    let same : length c.as_slice-prims.result.now ≡ length c.args.net.now.prims = ap length c.as_slice-prims.ensures ∙ sym (length-map c.prims.result.now.items component_of) ∙ ap length c.prims.ensures.prims in
    let low = c.loop-p.invariant.few c.loop-p.p (omega arith) in
    omega (arith, c.prims.ensures.net.limits.prims, same, low, c.loop-p.invariant.below, c.queue_pairs-pairs_below.ensures.few, c.loop-p-test.true)

pub loop-p-preserved : goal.loop-p-preserved
loop-p-preserved c =
    let ms = map component_of c.as_slice-prims.result.now in
    let colours = colours_at c.args.colours.now in
    let there = component_at c.as_slice-prims.result.now c.loop-p.p _ c.loop-p-test.true c.index-prims-p.is in
    let more = total_more (λ (m : Component). length (queue_pairs_at colours 0 m)) ms c.loop-p.p _ there in
    let next : c.loop-p.pairs_below + c.queue_pairs-pairs_below.result ≡ pairs_below colours ms (c.loop-p.p + 1) = omega (arith, more, c.loop-p.invariant.below, c.queue_pairs-pairs_below.ensures.number) in
    record {
      count = (let one = oracles_more ms c.loop-p.p _ there in omega (arith, one, c.loop-p.invariant.count, c.oracle_count-oracles_below.ensures));
      oracles = rw c.in_ok-push.ensures.ok (numbers_more (oracles_below ms) c.loop-p.p c.loop-p.oracles_below _ c.loop-p.invariant.oracles c.loop-p.invariant.count);
      below = next;
      pairs = rw c.in_ok-push-2.ensures.ok (numbers_more (pairs_below colours ms) c.loop-p.p c.loop-p.pairs_below _ c.loop-p.invariant.pairs c.loop-p.invariant.below);
      few = few_more (pairs_below colours ms) c.loop-p.p c.loop-p.invariant.few (let low = c.loop-p.invariant.few c.loop-p.p (omega arith) in omega (arith, next, low, c.loop-p.invariant.below, c.queue_pairs-pairs_below.ensures.few));
    }

pub returns-clause-oracles : goal.returns-clause-oracles
returns-clause-oracles c =
    let same : map component_of c.as_slice-prims.result.now ≡ c.args.net.now.prims = ap (map component_of) c.as_slice-prims.ensures ∙ c.prims.ensures.prims in
    let end : c.loop-p.p ≡ length (map component_of c.as_slice-prims.result.now) = omega (arith, length-map c.as_slice-prims.result.now component_of, c.loop-p-test.false, c.loop-p.auto.p-end) in
    rw (← same) (rw end at c.loop-p.invariant.oracles)

pub returns-clause-pairs : goal.returns-clause-pairs
returns-clause-pairs c =
    let same : map component_of c.as_slice-prims.result.now ≡ c.args.net.now.prims = ap (map component_of) c.as_slice-prims.ensures ∙ c.prims.ensures.prims in
    let end : c.loop-p.p ≡ length (map component_of c.as_slice-prims.result.now) = omega (arith, length-map c.as_slice-prims.result.now component_of, c.loop-p-test.false, c.loop-p.auto.p-end) in
    rw (← same) (record { below = rw end at c.loop-p.invariant.pairs; few = λ p h. c.loop-p.invariant.few p (omega (arith, h, end)) })

pub returns-clause-count : goal.returns-clause-count
returns-clause-count c =
    let same : map component_of c.as_slice-prims.result.now ≡ c.args.net.now.prims = ap (map component_of) c.as_slice-prims.ensures ∙ c.prims.ensures.prims in
    let end : c.loop-p.p ≡ length (map component_of c.as_slice-prims.result.now) = omega (arith, length-map c.as_slice-prims.result.now component_of, c.loop-p-test.false, c.loop-p.auto.p-end) in
    rw (← same) (c.loop-p.invariant.count ∙ ap (oracles_below (map component_of c.as_slice-prims.result.now)) end)
