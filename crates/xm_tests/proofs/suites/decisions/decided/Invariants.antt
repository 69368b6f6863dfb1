use Rattle.std.proofs.Common.{take}
use Rattle.xm_lp.specs.Start.{AreBelow}
use Rattle.xm_tests.proofs.suites.decisions.decided.Given as goal

abbrev pub invariant-loop-con : goal.invariant-loop-con
invariant-loop-con g l = AreBelow l.columns (take l.con-index l.con-items)
