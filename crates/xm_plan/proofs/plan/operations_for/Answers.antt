use Rattle.std.proofs.Common.{List, map, sym, subst}
use Rattle.std.proofs.lemmas.Result.{IfOk-weaker}
use Rattle.xm_model.specs.Component.{component_of}
use Rattle.xm_plan.proofs.Operating.{singles_for}
use Rattle.xm_plan.specs.Inner.Kept.{AreFor}
use Rattle.xm_plan.specs.declared.operation.Operation.{Operation}
use Rattle.xm_plan.proofs.plan.operations_for.Goals as goal

pub returns : goal.returns
returns c = IfOk-weaker c.single_operations.result _ _
    (λ operations is. subst (λ (ops : List Operation). AreFor (map component_of c.args.prims.now) c.args.choices.now c.args.tasks.now ops) (sym is) (singles_for (map component_of c.args.prims.now) c.args.choices.now c.args.tasks.now c.requires))
    c.single_operations.ensures
