use Rattle.std.proofs.Common.{List, ℕ, map, ap, sym, ◌∙◌, subst}
use Rattle.xm_design.specs.declared.tasks.Task.{Task}
use Rattle.xm_model.specs.Component.{Component, component_of}
use Rattle.xm_model.specs.Views.{content_at, signals_of}
use Rattle.xm_plan.specs.Inner.Operations.{all_tasks}
use Rattle.xm_plan.specs.Planned.{Planned}
use Rattle.xm_plan.specs.Schedule.{ArePlaced, LeavesOthers}
use Rattle.xm_plan.specs.Shown.{AreShown}
use Rattle.xm_plan.proofs.plan.Plan.solve_changed.Goals as goal

pub make_all-requires-clause-placed : goal.make_all-requires-clause-placed
make_all-requires-clause-placed g c =
    let prims = ap (λ (v : Planned). v.prims) c.self.view_is ∙ sym c.requires.prims in
    let places = ap (λ (v : Planned). v.places) c.self.view_is ∙ sym c.requires.wires in
    subst (λ (n : ℕ). ArePlaced (map component_of c.args.prims.now) n) places (subst (λ (ms : List Component). ArePlaced ms c.self.inside.places) prims c.self.invariant.placed)

pub returns-clause-others : goal.returns-clause-others
returns-clause-others g c =
    let tasks = ap all_tasks c.as_slice.ensures ∙ ap (λ (v : Planned). v.tasks) c.self.view_is in
    subst (λ (ts : List Task). LeavesOthers ts (signals_of c.args.wires.now) (signals_of c.make_all.new.wires)) tasks c.make_all.ensures.others

pub make_all-requires-clause-shown : goal.make_all-requires-clause-shown
make_all-requires-clause-shown g c =
    subst (λ (ms : List Component). AreShown ms (content_at (map g.C.HasCell.cell c.args.cells.now)) c.args.changed.now (signals_of c.args.wires.now)) (sym c.requires.prims) c.requires.shown
