use Rattle.std.proofs.Common.{◌≡◌, List, ℕ, map, ap, sym, ◌∙◌, subst}
use Rattle.xm_model.specs.Component.{Component, component_of}
use Rattle.xm_model.specs.Net.{Network}
use Rattle.xm_plan.specs.Schedule.{ArePlaced, IsSchedule}
use Rattle.xm_step.proofs.Planning.{placed_in, schedule_of}
use Rattle.xm_step.proofs.evaluator.Evaluator.new.Goals as goal

pub new-requires-clause-placed : goal.new-requires-clause-placed
new-requires-clause-placed c =
    let net = c.args.design.now.net in
    let prims : net.prims ≡ map component_of c.prims.result.now.items = sym (c.prims.ensures.prims ∙ ap (λ (n : Network). n.prims) c.net-net.ensures.net) in
    let places : net.channels ≡ c.channels.result = sym (c.channels.ensures.value ∙ ap (λ (n : Network). n.channels) c.net-net.ensures.net) in
    subst (λ (n : ℕ). ArePlaced (map component_of c.prims.result.now.items) n) places (subst (λ (ms : List Component). ArePlaced ms net.channels) prims (placed_in net c.is_designed.ensures.net))

pub new-requires-clause-schedule : goal.new-requires-clause-schedule
new-requires-clause-schedule c =
    let net = c.args.design.now.net in
    let prims : net.prims ≡ map component_of c.prims.result.now.items = sym (c.prims.ensures.prims ∙ ap (λ (n : Network). n.prims) c.net-net.ensures.net) in
    subst (λ (ms : List Component). IsSchedule ms c.tasks.result.now) prims (schedule_of net c.args.design.now.order c.tasks.result.now c.is_designed.ensures.order c.tasks.ensures)
