use Rattle.std.proofs.Common.{refl}
use Rattle.xm_plan.specs.Inner.Operations.{join}
use Rattle.xm_plan.proofs.operation.join_operation.Goals as goal

pub returns : goal.returns
returns c = λ choices. (refl, join (c.if-not-are_apart.ensures refl))
