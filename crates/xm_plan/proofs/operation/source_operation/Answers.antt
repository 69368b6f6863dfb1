use Rattle.std.proofs.Common.{refl}
use Rattle.std.proofs.lemmas.Option.{slice_get-get_or}
use Rattle.xm_plan.proofs.AtPorts.{not_eager}
use Rattle.xm_plan.specs.Inner.Operations.{source}
use Rattle.xm_plan.proofs.operation.source_operation.Goals as goal

pub returns-in-Keep : goal.returns-in-Keep
returns-in-Keep c = λ colours. (refl, source (slice_get-get_or c.args.choices.now c.args.prim 0 c.if-prim-choices.false) (not_eager c.args.mode c.in-Keep.is))
