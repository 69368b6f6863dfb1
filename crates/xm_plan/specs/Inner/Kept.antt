-- Inner: what a plan keeps. No public clause cites this.
use Rattle.std.specs.Prelude.{◌≡◌, ℕ, List, length}
use Rattle.xm_design.specs.declared.tasks.Task.{Task}
use Rattle.xm_model.specs.Component.{Component}
use Rattle.xm_plan.specs.Inner.Operations.{AllFit, all_tasks}
use Rattle.xm_plan.specs.Schedule.{ArePlaced, IsSchedule, SameTasks}
use Rattle.xm_plan.specs.declared.operation.Operation.{Operation}

-- the operations are those of the primitives, and their tasks stand in an order in which each can be done
pub record AreKept (prims : List Component) (places : ℕ) (choices : List ℕ) (ops : List Operation) : Type 0 where
  pub whole : length choices ≡ length prims
  pub placed : ArePlaced prims places
  pub schedule : IsSchedule prims (all_tasks ops)
  pub fit : AllFit prims choices ops

-- they do these tasks
pub record AreFor (prims : List Component) (choices : List ℕ) (tasks : List Task) (ops : List Operation) : Type 0 where
  pub schedule : IsSchedule prims (all_tasks ops)
  pub fit : AllFit prims choices ops
  pub same : SameTasks tasks (all_tasks ops)
