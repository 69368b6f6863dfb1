use Rattle.std.proofs.Common.{◌≡◌, sym, ◌∙◌, SFits, rules, arith}
use Rattle.std.specs.Int.{w128}
use Rattle.std.proofs.lemmas.Int.{to_z-of_z}
use Rattle.xm_colours.specs.Family.{colours_at}
use Rattle.xm_check.proofs.Packing.{colours_below, filled, grown, no_colours, over_from}
use Rattle.xm_proof.specs.Tests.{entries_where, queue_columns}
use Rattle.xm_check.proofs.items.packets.Goals as goal

pub loop-d-init : goal.loop-d-init
loop-d-init c = c.new-entries.ensures.items ∙ sym (no_colours c.args.q _ (queue_columns c.args.design.now))

pub loop-d-preserved : goal.loop-d-preserved
loop-d-preserved c =
    let it = c.args.design.now in
    let fits : SFits w128 c.args.value = search rules in
    let so_far = simp to_z-of_z at c.loop-d.invariant in
    let added = simp to_z-of_z at c.in_ok-push_count.ensures in
    rw (to_z-of_z w128 c.args.value fits)
    (grown (colours_at it.colours) it.net.prims c.args.q c.loop-d.d c.args.value c.loop-d.entries.items c.push_count.new.entries.items c.net-net.ensures.design.colours.rise so_far added)

pub returns-clause-row : goal.returns-clause-row
returns-clause-row c =
    let it = c.args.design.now in
    let fits : SFits w128 c.args.value = search rules in
    let so_far = simp to_z-of_z at c.loop-d.invariant in
    let few = c.net-net.ensures.design.net.limits.colours in
    filled (colours_at it.colours) it.net.prims c.args.q c.loop-d.d c.requires.input c.args.out c.args.capacity c.requires.initial c.args.value c.loop-d.entries.items c.requires.has
    (λ e inside. let low = c.colours-colours.ensures.below c.args.out e inside in omega arith) so_far

pub returns-clause-over : goal.returns-clause-over
returns-clause-over c =
    let fits : SFits w128 c.args.value = search rules in
    let so_far : c.loop-d.entries.items ≡ entries_where (colours_below c.args.q c.loop-d.d) c.args.value 0 (queue_columns c.args.design.now) = simp to_z-of_z at c.loop-d.invariant in
    over_from (colours_below c.args.q c.loop-d.d) c.args.value (queue_columns c.args.design.now) c.loop-d.entries.items so_far
