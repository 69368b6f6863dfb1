use Rattle.std.proofs.Common.{◌≡◌, length, map, arith, subst, ℕ}
use Rattle.xm_model.specs.Component.{component_of}
use Rattle.xm_model.specs.Views.{content_at, signals_of}
use Rattle.xm_plan.proofs.Settling.{all_settled, none_settled}
use Rattle.xm_plan.specs.Planned.{choice_for}
use Rattle.xm_plan.specs.Schedule.{ArePlaced}
use Rattle.xm_plan.proofs.making.make_all.Goals as goal

pub loop-k-init : goal.loop-k-init
loop-k-init g c = record { within = omega arith; settled = none_settled _ _ _ _ _ }

pub make_some-k-requires-clause-placed : goal.make_some-k-requires-clause-placed
make_some-k-requires-clause-placed g c =
    let same : length c.args.wires.now ≡ length c.loop-k.wires = omega arith in
    subst (λ (n : ℕ). ArePlaced (map component_of c.args.prims.now) n) same c.requires.placed

pub loop-k-preserved : goal.loop-k-preserved
loop-k-preserved g c = record { within = c.make_some-k.ensures.within; settled = c.make_some-k.ensures.settled (signals_of c.args.wires.now) c.requires.shown c.loop-k.invariant.settled }

pub returns : goal.returns
returns g c =
    let all = all_settled _ (content_at (map g.C.HasCell.cell c.args.cells.now)) (choice_for c.args.choices.now c.args.row.now) c.args.operations.now (signals_of c.args.wires.now) (signals_of c.loop-k.wires) c.loop-k.k c.loop-k-test.false c.loop-k.invariant.settled in
    record { settled = all.0; others = all.1 }
