use Rattle.std.proofs.Common.{◌+◌, ap}
use Rattle.xm_elim.proofs.Ordering.{once_all, once_more, once_passed, once_same}
use Rattle.xm_elim.proofs.rising.each_once.Goals as goal
use Rattle.xm_elim.proofs.rising.each_once.Goals.{then-p-lowest+in_ok-push, else-p-lowest}

pub loop-p-preserved : goal.loop-p-preserved
loop-p-preserved c =
    elim c.if-p-lowest.branch [
      | then-p-lowest+in_ok-push w ↦
          once_same c.args.places.now (c.loop-p.p-index + 1) _ _ _ _ (ap (λ l. l.items) w.out-is) w.lowest-is
          (once_more c.args.places.now c.loop-p.p-index c.loop-p.out.items _ c.loop-p.lowest c.loop-p-test.true c.requires.sorted w.if-p-lowest.true
          w.in_ok-push.ensures.ok c.loop-p.invariant)
      | else-p-lowest w ↦
          once_same c.args.places.now (c.loop-p.p-index + 1) _ _ _ _ (ap (λ l. l.items) w.out-is) w.lowest-is
          (once_passed c.args.places.now c.loop-p.p-index c.loop-p.out.items c.loop-p.lowest c.loop-p-test.true w.if-p-lowest.false c.loop-p.invariant)
    ]

pub returns : goal.returns
returns c = once_all c.args.places.now c.loop-p.p-index c.loop-p.out.items c.loop-p.lowest c.loop-p-test.false c.loop-p.invariant
