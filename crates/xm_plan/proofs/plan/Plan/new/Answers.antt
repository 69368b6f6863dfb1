use Rattle.std.proofs.Common.{List, map, sym, ◌∙◌}
use Rattle.std.proofs.lemmas.List.{length-map}
use Rattle.xm_model.specs.Component.{Component, component_of}
use Rattle.xm_plan.specs.Inner.Kept.{AreFor, AreKept}
use Rattle.xm_plan.proofs.plan.Plan.new.Goals as goal

pub invariant_of-result : goal.invariant_of-result
invariant_of-result c =
    let ms : List Component = map component_of c.args.prims.now.items in
    let here : AreFor ms c.args.choices.now c.args.tasks.now c.in_ok-operations.operations.items = rw c.as_slice.ensures at c.in_ok-operations.ensures in
    let kept : AreKept ms c.args.places c.args.choices.now c.in_ok-operations.operations.items =
    record { whole = c.requires.choices ∙ sym (length-map c.args.prims.now.items component_of); placed = c.requires.placed; schedule = here.schedule; fit = here.fit } in
    rw (c.of.ensures, c.in_ok-choices.ensures) kept
