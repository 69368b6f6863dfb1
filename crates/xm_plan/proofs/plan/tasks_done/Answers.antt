use Rattle.std.proofs.Common.{List, ◌++◌, ap, get_or, sym, ◌∙◌, add-one}
use Rattle.std.proofs.lemmas.Option.{slice_get-get_or}
use Rattle.xm_design.specs.declared.tasks.Task.{Task}
use Rattle.xm_model.specs.declared.primitive.SourceMode.TheVariants as source_mode
use Rattle.xm_plan.proofs.Operating.{all_tasks-more}
use Rattle.xm_plan.specs.Inner.Operations.{tasks_of}
use Rattle.xm_plan.specs.declared.operation.Operation.{Operation}
use Rattle.xm_plan.specs.declared.operation.Operation.TheVariants as operation
use Rattle.xm_plan.proofs.plan.tasks_done.Goals as goal

pub loop-operation-preserved : goal.loop-operation-preserved
loop-operation-preserved c =
    let k = c.loop-operation.operation-index in
    let op : Operation = get_or c.args.operations.now k (operation.Source 0 0 0 source_mode.Keep) in
    c.in_ok-push_tasks.ensures ∙ ap (λ (xs : List Task). xs ++ tasks_of op) c.loop-operation.invariant
    ∙ rw add-one (sym (all_tasks-more c.args.operations.now k op (slice_get-get_or c.args.operations.now k (operation.Source 0 0 0 source_mode.Keep) c.loop-operation-test.true)))
