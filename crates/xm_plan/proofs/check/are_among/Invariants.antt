use Rattle.std.proofs.Common.{◌≡◌, ◌<◌, ℕ, Some, slice_get}
use Rattle.xm_design.specs.declared.tasks.Task.{Task}
use Rattle.xm_plan.specs.Inner.Checks.{IsAmong}
use Rattle.xm_plan.proofs.check.are_among.Given as goal

abbrev pub invariant-loop-task : goal.invariant-loop-task
invariant-loop-task l = (j : ℕ) (task : Task) → j < l.task-index → slice_get l.others j ≡ Some task → IsAmong l.tasks task
