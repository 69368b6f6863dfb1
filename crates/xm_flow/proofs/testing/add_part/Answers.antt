use Rattle.std.proofs.Common.{rules, SFits}
use Rattle.std.specs.Int.{w128}
use Rattle.std.proofs.lemmas.Int.{to_z-of_z}
use Rattle.xm_flow.proofs.Adding.{part_added}
use Rattle.xm_flow.proofs.testing.add_part.Goals as goal

pub returns-clause-added : goal.returns-clause-added
returns-clause-added c =
    let factor : SFits w128 c.args.part.factor = search rules in
    let total : SFits w128 c.args.total = search rules in
    let constant : SFits w128 c.constant.result = search rules in
    let term : SFits w128 c.in-Some.term = search rules in
    let next : SFits w128 c.in-Some-sum.next = search rules in
    let added = simp to_z-of_z at c.add_entries.ensures.added in
    let product = simp to_z-of_z at c.in-Some.ensures in
    let sum = simp to_z-of_z at c.in-Some-sum.ensures in
    rw (to_z-of_z w128 c.in-Some-sum.next next)
    (part_added c.args.n c.args.flow.now c.args.part c.args.total c.args.slots.now c.add_entries.new.slots c.index-flow-part.result c.entries.result.now c.constant.result c.in-Some.term
    c.in-Some-sum.next c.requires.place c.index-flow-part.is c.entries.ensures.value c.constant.ensures.value (added c.if-not-add_entries.false) product sum)
