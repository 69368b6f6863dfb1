use Rattle.std.proofs.Common.{take, All}
use Rattle.xm_tests.specs.Inner.Over.{IsOver}
use Rattle.xm_tests.proofs.suites.invariants.are_over.Given as goal

abbrev pub invariant-loop-row : goal.invariant-loop-row
invariant-loop-row l = All (IsOver l.base) (take l.row-index l.rows)
