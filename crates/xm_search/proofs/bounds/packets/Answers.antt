use mir.Syntax.{w128}
use mir.Val.{of_z, to_z}
use Rattle.xm_search.specs.Inner.Named.{is_counted}
use Rattle.xm_search.proofs.Naming.{where_next}
use Rattle.xm_search.proofs.bounds.packets.Goals as goal

pub loop-j-preserved : goal.loop-j-preserved
loop-j-preserved c = where_next (is_counted c.args.q c.args.colour) (to_z w128 (of_z w128 c.args.value)) c.args.pairs.now c.loop-j.j (0, 0) c.loop-j.entries.items c.push_counted.new.entries.items
    c.loop-j-test.true c.loop-j.invariant c.in_ok-push_counted.ensures
