use Rattle.xm_parts.proofs.Neighbouring.{parts_push, parts_skip}
use Rattle.xm_parts.proofs.near.far_parts.Goals as goal
use Rattle.xm_parts.proofs.near.far_parts.Goals.{then-is_near+in_ok-push, else-is_near}

pub loop-q-preserved : goal.loop-q-preserved
loop-q-preserved c =
    elim c.if-is_near.branch [
      | then-is_near+in_ok-push w ↦ rw w.made-is (rw w.in_ok-push.ensures.ok (parts_push c.args.cuts.now c.loop-q.q c.loop-q.made.items (c.is_near.ensures.yes w.if-is_near.true) c.loop-q.invariant))
      | else-is_near w ↦ rw w.made-is (parts_skip c.args.cuts.now c.loop-q.q c.loop-q.made.items (λ has. let is = c.is_near.ensures.no has in let not = w.if-is_near.false in cc) c.loop-q.invariant)
    ]
