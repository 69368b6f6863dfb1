use Rattle.std.proofs.Common.{◌<◌, take, All}
use Rattle.xm_tests.proofs.suites.decisions.is_below.Given as goal

abbrev pub invariant-loop-entry : goal.invariant-loop-entry
invariant-loop-entry l = All (λ e. e.column < l.columns) (take l.entry-index l.entry-items)
