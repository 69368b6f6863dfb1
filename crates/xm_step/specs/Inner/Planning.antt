-- Inner: a plan for the cycles of a design. No public clause cites this.
use Rattle.std.specs.Prelude.{◌≡◌, List, length}
use Rattle.xm_design.specs.Designed.{Designed}
use Rattle.xm_design.specs.Numbers.{IsOracles}
use Rattle.xm_design.specs.Tasks.{AreTasks}
use Rattle.xm_design.specs.declared.tasks.Task.{Task}
use Rattle.xm_plan.specs.Planned.{Planned}
use Rattle.xm_plan.specs.Schedule.{SameTasks}
use Rattle.xm_step.specs.Inner.Kinds.{AreKindsTo}
use Rattle.xm_step.specs.declared.kinds.Holder.{Holder}
use Rattle.xm_step.specs.declared.kinds.QueuePlace.{QueuePlace}

-- the plan is for the net's primitives and channels, and does the tasks of the design
pub record IsPlanFor (it : Designed) (plan : Planned) : Type 0 where
  pub prims : plan.prims ≡ it.net.prims
  pub places : plan.places ≡ it.net.channels
  pub choices : IsOracles it.net.prims plan.choices
  pub tasks : List Task
  pub are_tasks : AreTasks it.net it.order tasks
  pub same : SameTasks tasks plan.tasks

-- what an evaluator keeps beside its design
pub record IsEvaluatorOf
    (it : Designed) (plan : Planned) (queues : List QueuePlace) (others : List Holder) : Type 0 where
  pub planned : IsPlanFor it plan
  pub kinds : AreKindsTo it.net.prims (length it.net.prims) queues others
