use Rattle.std.proofs.Common.{refl}
use Rattle.xm_plan.specs.Inner.Operations
use Rattle.xm_plan.proofs.operation.whole_operation.Goals as goal

pub returns-in-Queue : goal.returns-in-Queue
returns-in-Queue c = rw c.in-Queue.is (refl, Operations.queue)

pub returns-in-Function : goal.returns-in-Function
returns-in-Function c = rw c.in-Function.is (refl, Operations.function)
