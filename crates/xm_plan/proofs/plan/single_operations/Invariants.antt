use Rattle.std.proofs.Common.{◌≡◌, take}
use Rattle.xm_plan.specs.Inner.Operations.{singles}
use Rattle.xm_plan.proofs.plan.single_operations.Given as goal

abbrev pub invariant-loop-task : goal.invariant-loop-task
invariant-loop-task l = l.operations.items ≡ singles (take l.task-index l.tasks)
