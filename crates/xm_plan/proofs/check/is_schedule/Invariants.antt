use Rattle.std.proofs.Common.{◌≡◌, ◌<◌, ℕ, map, Some, slice_get}
use Rattle.xm_design.specs.declared.tasks.Task.{Task}
use Rattle.xm_model.specs.Component.{component_of}
use Rattle.xm_plan.specs.Inner.Checks.{IsInOrder}
use Rattle.xm_plan.proofs.check.is_schedule.Given as goal

abbrev pub invariant-loop-k : goal.invariant-loop-k
invariant-loop-k l = (j : ℕ) (task : Task) → j < l.k → slice_get l.tasks j ≡ Some task → IsInOrder (map component_of l.prims) l.positions task j
