use Rattle.std.proofs.Common.{refl, sym, ◌∙◌}
use Rattle.xm_plan.proofs.Checking.{maker_told}
use Rattle.xm_plan.specs.Inner.Operations.{one}
use Rattle.xm_plan.proofs.operation.one_operation.Goals as goal

pub returns : goal.returns
returns c = λ choices. (refl, one (maker_told _ c.args.task.signal (sym c.is_maker.ensures ∙ c.if-not-is_maker.false)))
