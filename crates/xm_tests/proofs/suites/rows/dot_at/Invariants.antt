use Rattle.std.proofs.Common.{◌<◌, length, take, All}
use Rattle.xm_tests.proofs.suites.rows.dot_at.Given as goal

abbrev pub invariant-loop-entry : goal.invariant-loop-entry
invariant-loop-entry g l = All (λ e. e.column < length l.x) (take l.entry-index l.entry-items)
