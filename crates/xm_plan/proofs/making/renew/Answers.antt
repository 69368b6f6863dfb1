use Rattle.std.proofs.Common.{map}
use Rattle.xm_model.specs.Component.{component_of}
use Rattle.xm_model.specs.Views.{content_at, signals_of}
use Rattle.xm_plan.proofs.Settling.{operation_of, shown_done}
use Rattle.xm_plan.specs.Inner.Operations.{prim_of}
use Rattle.xm_plan.specs.Planned.{choice_for}
use Rattle.xm_plan.proofs.making.renew.Goals as goal

pub returns-then-stays : goal.returns-then-stays
returns-then-stays g c = λ left m has.
    let stays = c.stays.ensures c.if-stays.true in
    let op = c.args.operation in
    shown_done c.args.choices.now m (content_at (map g.C.HasCell.cell c.args.cells.now) (prim_of op)) (choice_for c.args.choices.now c.args.row.now (prim_of op)) (signals_of c.args.wires.now) op stays.0
    (operation_of (map component_of c.args.prims.now) c.args.choices.now op m c.requires.fits has) (left m has stays.1 stays.0)

pub returns : goal.returns
returns g c = λ left. c.make.ensures
