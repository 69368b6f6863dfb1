use Rattle.std.proofs.Common.{◌≡◌, take}
use Rattle.xm_plan.specs.Inner.Operations.{all_tasks}
use Rattle.xm_plan.proofs.plan.tasks_done.Given as goal

abbrev pub invariant-loop-operation : goal.invariant-loop-operation
invariant-loop-operation l = l.tasks.items ≡ all_tasks (take l.operation-index l.operations)
