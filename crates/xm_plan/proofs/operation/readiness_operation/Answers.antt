use Rattle.std.proofs.Common.{refl}
use Rattle.xm_plan.specs.Inner.Operations.{switch_ready}
use Rattle.xm_plan.proofs.operation.readiness_operation.Goals as goal

pub returns-in-Switch : goal.returns-in-Switch
returns-in-Switch c = λ choices. rw c.in-Switch.is (refl, switch_ready)
