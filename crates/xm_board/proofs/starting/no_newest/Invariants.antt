use Rattle.xm_board.specs.Inner.Starting.{AreEach, IsNoNewest}
use Rattle.xm_board.proofs.starting.no_newest.Given as goal

abbrev pub invariant-loop-p : goal.invariant-loop-p
invariant-loop-p l = AreEach IsNoNewest l.p l.made.items
