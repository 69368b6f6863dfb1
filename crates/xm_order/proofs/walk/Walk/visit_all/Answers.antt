use Rattle.std.proofs.Common.{sym, ◌∙◌}
use Rattle.xm_order.proofs.Walking.{done_more}
use Rattle.xm_order.proofs.walk.Walk.visit_all.Goals as goal

pub loop-c-preserved : goal.loop-c-preserved
loop-c-preserved c =
    let first = c.in_ok-visit.ensures in
    let second = c.in_ok-visit-2.ensures in
    let before = c.loop-c.invariant in
    record {
      walk = second.walk;
      path = second.path;
      done = done_more c.loop-c.c _ _ _ (first.walk.whole ∙ sym before.walk.whole) (second.walk.whole ∙ sym first.walk.whole) first.advances second.advances before.done first.done second.done;
    }
