use Rattle.std.proofs.Common.{◌+◌, ◌<◌, rules, SFits, to_z, pos, arith, refl}
use Rattle.std.specs.Int.{w128}
use Rattle.std.proofs.lemmas.Int.{to_z-of_z}
use Rattle.std.proofs.lemmas.List.Elements.{All-weaker}
use Rattle.xm_flow.specs.declared.invariant.Part.{Part}
use Rattle.xm_flow.specs.declared.testing.Slot.{Slot}
use Rattle.xm_flow.proofs.Adding.{part_leaves, weighed_all, weighed_more, weighed_none}
use Rattle.xm_flow.proofs.testing.weigh.Goals as goal

pub loop-part-init : goal.loop-part-init
loop-part-init c = record {
  weighed = weighed_none c.args.n c.args.flow.now c.args.slots.now _ refl c.requires.below;
  below = All-weaker (λ (s : Slot). s.lemma < c.args.n) (λ s. s.lemma < c.args.n + 1) (λ s low. omega arith) c.args.slots.now c.requires.below;
}

pub loop-part-preserved : goal.loop-part-preserved
loop-part-preserved c =
    let none : Part = record { flow = 0; factor = pos 0 } in
    let next : SFits w128 c.in-Some.next = search rules in
    record {
      weighed = rw (to_z-of_z w128 c.in-Some.next next) (weighed_more c.args.n c.args.flow.now c.args.parts.now c.loop-part.part-index none c.loop-part.slots c.add_part.new.slots
          (to_z w128 c.loop-part.total-bits) c.in-Some.next c.loop-part-test.true c.loop-part.invariant.weighed c.in-Some.ensures.added);
      below = c.in-Some.ensures.below c.loop-part.invariant.below;
    }

pub returns-in_default-clause-leaves : goal.returns-in_default-clause-leaves
returns-in_default-clause-leaves c =
    let none : Part = record { flow = 0; factor = pos 0 } in
    part_leaves c.args.n c.args.flow.now c.args.parts.now c.loop-part.part-index none c.loop-part.slots (to_z w128 c.loop-part.total-bits) c.loop-part-test.true
    c.loop-part.invariant.weighed c.in_default.ensures.leaves

pub returns-clause-weighed : goal.returns-clause-weighed
returns-clause-weighed c =
    weighed_all c.args.n c.args.flow.now c.args.parts.now c.loop-part.part-index c.loop-part.slots (to_z w128 c.loop-part.total-bits) c.loop-part-test.false
    c.loop-part.invariant.weighed
