use Rattle.std.proofs.Common.{refl}
use Rattle.xm_plan.specs.Inner.Operations.{merge}
use Rattle.xm_plan.proofs.operation.merge_operation.Goals as goal

pub returns : goal.returns
returns c = λ choices. (refl, merge (c.if-not-are_apart.ensures refl))
