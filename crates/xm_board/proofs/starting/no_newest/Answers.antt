use Rattle.std.proofs.Common.{refl, None}
use Rattle.xm_board.proofs.Beginning.{each_push}
use Rattle.xm_board.specs.Inner.Starting.{IsNoNewest}
use Rattle.xm_board.proofs.starting.no_newest.Goals as goal

pub loop-p-preserved : goal.loop-p-preserved
loop-p-preserved c =
    rw c.in_ok-push.ensures.ok (each_push IsNoNewest c.loop-p.p c.loop-p.made.items None c.loop-p.invariant refl)
