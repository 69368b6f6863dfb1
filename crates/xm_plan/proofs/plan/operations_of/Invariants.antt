use Rattle.std.proofs.Common.{map}
use Rattle.xm_model.specs.Component.{component_of}
use Rattle.xm_plan.specs.Inner.Operations.{AllFit}
use Rattle.xm_plan.proofs.plan.operations_of.Given as goal

abbrev pub invariant-loop-step : goal.invariant-loop-step
invariant-loop-step l = AllFit (map component_of l.prims) l.choices l.operations.items
