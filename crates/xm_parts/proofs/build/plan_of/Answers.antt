use Rattle.std.proofs.Common.{◌≡◌, ℕ, length, map, ap, sym, subst, ◌∙◌}
use Rattle.std.proofs.lemmas.List.{length-map}
use Rattle.xm_model.specs.Component.{component_of}
use Rattle.xm_model.specs.Views.{oracles_below}
use Rattle.xm_parts.proofs.Passing.{passing_from}
use Rattle.xm_parts.proofs.Scheduling.{are_placed, is_schedule}
use Rattle.xm_parts.specs.Kept.{label_at}
use Rattle.xm_parts.specs.Partition.{touches_at}
use Rattle.xm_plan.specs.Schedule.{ArePlaced}
use Rattle.xm_parts.proofs.build.plan_of.Goals as goal

pub choices_of-requires : goal.choices_of-requires
choices_of-requires c k i at =
    let label = label_at c.args.labels.now in
    (passing_from (touches_at c.args.design.now.net label c.args.p) (length c.args.design.now.net.prims) k i (rw c.requires.prims at at)).below

pub new-requires-clause-choices : goal.new-requires-clause-choices
new-requires-clause-choices c =
    let net = c.args.design.now.net in let label = label_at c.args.labels.now in
    let long : length (map component_of c.args.planned.now.items) ≡ length c.args.planned.now.items = length-map c.args.planned.now.items component_of in
    let count : length (map (oracles_below net.prims) c.args.prims.now) ≡ length c.args.prims.now = length-map c.args.prims.now (oracles_below net.prims) in
    ap length (c.as_slice-2.ensures ∙ c.in_ok-choices.ensures) ∙ count ∙ ap length c.requires.prims ∙ sym c.requires.planned.whole ∙ long

pub new-requires-clause-placed : goal.new-requires-clause-placed
new-requires-clause-placed c =
    let label = label_at c.args.labels.now in
    subst (λ (n : ℕ). ArePlaced (map component_of c.args.planned.now.items) n) (sym c.requires.own)
    (are_placed c.args.design.now c.net-net.ensures.design label c.requires.partition c.args.p (map component_of c.args.planned.now.items) c.requires.planned)

pub new-requires-clause-schedule : goal.new-requires-clause-schedule
new-requires-clause-schedule c =
    let label = label_at c.args.labels.now in
    rw c.as_slice-3.ensures (is_schedule c.args.design.now c.net-net.ensures.design label c.requires.partition c.args.p (map component_of c.args.planned.now.items) c.requires.planned c.in_ok-tasks.tasks.items c.in_ok-tasks.ensures)
