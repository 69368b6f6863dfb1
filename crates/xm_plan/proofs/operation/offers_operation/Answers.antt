use Rattle.std.proofs.Common.{refl}
use Rattle.xm_plan.specs.Inner.Operations.{switch_offers}
use Rattle.xm_plan.proofs.operation.offers_operation.Goals as goal

pub returns-else-not-are_apart : goal.returns-else-not-are_apart
returns-else-not-are_apart c = λ choices. rw c.in-Switch.is (refl, switch_offers (c.if-not-are_apart.ensures refl))
