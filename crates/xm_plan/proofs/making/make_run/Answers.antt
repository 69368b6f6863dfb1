use Rattle.std.proofs.Common.{◌≡◌, ◌∙◌, length, map, arith, subst, sym, ℕ, get_or}
use Rattle.std.proofs.lemmas.Option.{slice_get-get_or}
use Rattle.xm_model.specs.Component.{component_of}
use Rattle.xm_model.specs.Views.{content_at, signals_of}
use Rattle.xm_model.specs.declared.primitive.SourceMode.TheVariants as source_mode
use Rattle.xm_plan.proofs.Settling.{left_settled, operation_settled}
use Rattle.xm_plan.specs.Planned.{choice_for}
use Rattle.xm_plan.specs.Schedule.{ArePlaced}
use Rattle.xm_plan.specs.declared.operation.Operation.{Operation}
use Rattle.xm_plan.specs.declared.operation.Operation.TheVariants as operation
use Rattle.xm_plan.proofs.making.make_run.Goals as goal

pub loop-k-init : goal.loop-k-init
loop-k-init g c =
    let op : Operation = get_or c.args.operations.now c.args.from (operation.Source 0 0 0 source_mode.Keep) in
    let at = slice_get-get_or c.args.operations.now c.args.from (operation.Source 0 0 0 source_mode.Keep) c.requires.from in
    record {
      later = omega arith;
      within = omega (arith, c.requires.from);
      settled = λ φ shown before.
          operation_settled _ (content_at (map g.C.HasCell.cell c.args.cells.now)) (choice_for c.args.choices.now c.args.row.now) c.args.operations.now c.requires.schedule φ (signals_of c.args.wires.now) (signals_of c.renew.new.wires) c.args.choices.now c.args.from op
          at (c.requires.fit c.args.from op at) before (c.renew.ensures (left_settled _ (content_at (map g.C.HasCell.cell c.args.cells.now)) (choice_for c.args.choices.now c.args.row.now) c.args.changed.now c.args.operations.now c.requires.schedule φ (signals_of c.args.wires.now) c.args.choices.now c.args.from op at (c.requires.fit c.args.from op at) shown before));
    }

pub renew-requires-in-loop-k-clause-fits : goal.renew-requires-in-loop-k-clause-fits
renew-requires-in-loop-k-clause-fits g c =
    c.requires.fit c.loop-k.k _ (slice_get-get_or c.args.operations.now c.loop-k.k (operation.Source 0 0 0 source_mode.Keep) c.loop-k-test.true)

pub renew-requires-in-loop-k-clause-placed : goal.renew-requires-in-loop-k-clause-placed
renew-requires-in-loop-k-clause-placed g c =
    let same : length c.args.wires.now ≡ length c.loop-k.wires = sym (c.loop-k.auto.wires ∙ c.renew.auto.wires) in
    subst (λ (n : ℕ). ArePlaced (map component_of c.args.prims.now) n) same c.requires.placed

pub loop-k-preserved : goal.loop-k-preserved
loop-k-preserved g c =
    let op : Operation = get_or c.args.operations.now c.loop-k.k (operation.Source 0 0 0 source_mode.Keep) in
    let at = slice_get-get_or c.args.operations.now c.loop-k.k (operation.Source 0 0 0 source_mode.Keep) c.loop-k-test.true in
    record {
      later = omega (arith, c.loop-k.invariant.later);
      within = omega (arith, c.loop-k-test.true);
      settled = λ φ shown before.
          operation_settled _ (content_at (map g.C.HasCell.cell c.args.cells.now)) (choice_for c.args.choices.now c.args.row.now) c.args.operations.now c.requires.schedule φ (signals_of c.loop-k.wires) (signals_of c.renew-in-loop-k.new.wires) c.args.choices.now c.loop-k.k op
          at (c.requires.fit c.loop-k.k op at) (c.loop-k.invariant.settled φ shown before) (c.renew-in-loop-k.ensures (left_settled _ (content_at (map g.C.HasCell.cell c.args.cells.now)) (choice_for c.args.choices.now c.args.row.now) c.args.changed.now c.args.operations.now c.requires.schedule φ (signals_of c.loop-k.wires) c.args.choices.now c.loop-k.k op at (c.requires.fit c.loop-k.k op at) shown (c.loop-k.invariant.settled φ shown before)));
    }
