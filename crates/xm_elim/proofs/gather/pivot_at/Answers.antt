use Rattle.xm_elim.proofs.Gathering.{passed_pivot}
use Rattle.xm_elim.proofs.gather.pivot_at.Goals as goal

pub loop-p-preserved : goal.loop-p-preserved
loop-p-preserved c =
    passed_pivot c.args.rows.now c.args.noted.now c.loop-p.p-index c.args.column c.index-rows-p.result c.is_pivot_of.result c.loop-p-test.true c.is_pivot_of.ensures
    c.if-is_pivot_of.false c.loop-p.invariant
