use Rattle.xm_board.proofs.Beginning.{each_push}
use Rattle.xm_board.specs.Inner.Starting.{IsFirstFar}
use Rattle.xm_parts.specs.Kept.{label_at}
use Rattle.xm_board.proofs.starting.first_far.Goals as goal

pub loop-p-preserved : goal.loop-p-preserved
loop-p-preserved c =
    rw c.in_ok-push.ensures.ok (each_push (IsFirstFar c.args.design.now.net (label_at c.args.parts.now.labels) c.args.logs.now) c.loop-p.p c.loop-p.made.items c.in_ok-far.far c.loop-p.invariant c.in_ok-far.ensures)
