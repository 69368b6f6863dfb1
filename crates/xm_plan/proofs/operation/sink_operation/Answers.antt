use Rattle.std.proofs.Common.{refl}
use Rattle.std.proofs.lemmas.Option.{slice_get-get_or}
use Rattle.xm_plan.specs.Inner.Operations.{sink}
use Rattle.xm_plan.proofs.operation.sink_operation.Goals as goal

pub returns : goal.returns
returns c = (refl, sink (slice_get-get_or c.args.choices.now c.args.prim 0 c.if-prim-choices.false))
