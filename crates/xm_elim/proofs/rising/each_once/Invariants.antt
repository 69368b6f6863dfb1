use Rattle.xm_elim.proofs.Ordering.{IsOnce}
use Rattle.xm_elim.proofs.rising.each_once.Given as goal

abbrev pub invariant-loop-p : goal.invariant-loop-p
invariant-loop-p l = IsOnce l.places l.p-index l.out.items l.lowest
