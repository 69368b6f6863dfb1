use Rattle.std.proofs.Common.{◌≡◌, ◌+◌, List, length, map, get_or, refl, sym, ◌∙◌, rules, arith}
use Rattle.std.proofs.lemmas.Option.{slice_get-get_or}
use Rattle.xm_model.specs.Component.{Component}
use Rattle.xm_model.specs.Views.{signals_of}
use Rattle.xm_step.specs.Inner.Kinds.{AreKindsTo, IsAmongBoth, IsAmongQueues}
use Rattle.xm_step.specs.declared.kinds.Holder.{Holder}
use Rattle.xm_step.specs.declared.kinds.Holding.TheVariants as holding
use Rattle.xm_step.specs.declared.kinds.QueuePlace.{QueuePlace}
use Rattle.xm_step.proofs.Going.{all_gone, both_from_queues, other_here, other_in, other_out, pass_has_room, pass_went, queue_here, queue_in, queue_out, queue_placed}
use Rattle.xm_step.proofs.Mapped.{other_can_by, other_gone_by, other_within_by, queue_can_by, queue_gone_by, queue_within_by, same_length}
use Rattle.xm_step.proofs.Advancing.{none_gone}
use Rattle.xm_step.proofs.Noting.{all_noted, both_noted, holder_is, none_noted, noted_by, queue_idle, standing_by}
use Rattle.xm_step.specs.Inner.Cells.{IsStanding}
use Rattle.xm_model.specs.Component.{content_of}
use Rattle.std.specs.Prelude.{IsTrue}
use Rattle.xm_step.proofs.advance.advance_kept.Goals as goal

pub bounds-cells-queue : goal.bounds-cells-queue
bounds-cells-queue g c =
    let ms : List Component = c.args.evaluator.now.net.prims in
    let kinds : AreKindsTo ms (length ms) c.as_slice-queues.result.now c.as_slice-others.result.now = rw (c.as_slice-queues.ensures, c.as_slice-others.ensures) c.kinds-kinds.ensures in
    let it : QueuePlace = get_or c.as_slice-queues.result.now c.loop-k.k (record { prim = 0; input = 0; out = 0 }) in
    queue_within_by g.C.HasCell.cell ms c.args.cells.now (signals_of c.args.wires.now) c.as_slice-queues.result.now c.as_slice-others.result.now (length ms) kinds c.requires.roomy c.requires.guarded (sym c.requires.roomy.whole)
    c.loop-k.cells c.loop-k.auto.cells c.loop-k.k it (slice_get-get_or c.as_slice-queues.result.now c.loop-k.k (record { prim = 0; input = 0; out = 0 }) c.loop-k-test.true) c.loop-k.invariant.gone

pub offset_bounds-cells-queue : goal.offset_bounds-cells-queue
offset_bounds-cells-queue g c = let within = bounds-cells-queue g c in search rules

pub advance_queue_at-any-requires-clause-out : goal.advance_queue_at-any-requires-clause-out
advance_queue_at-any-requires-clause-out g c =
    let ms : List Component = c.args.evaluator.now.net.prims in
    let kinds : AreKindsTo ms (length ms) c.as_slice-queues.result.now c.as_slice-others.result.now = rw (c.as_slice-queues.ensures, c.as_slice-others.ensures) c.kinds-kinds.ensures in
    let it : QueuePlace = get_or c.as_slice-queues.result.now c.loop-k.k (record { prim = 0; input = 0; out = 0 }) in
    (queue_placed ms (length ms) c.as_slice-queues.result.now c.as_slice-others.result.now kinds _ c.requires.placed c.loop-k.k it (slice_get-get_or c.as_slice-queues.result.now c.loop-k.k (record { prim = 0; input = 0; out = 0 }) c.loop-k-test.true)).1

pub advance_queue_at-any-requires-clause-input : goal.advance_queue_at-any-requires-clause-input
advance_queue_at-any-requires-clause-input g c =
    let ms : List Component = c.args.evaluator.now.net.prims in
    let kinds : AreKindsTo ms (length ms) c.as_slice-queues.result.now c.as_slice-others.result.now = rw (c.as_slice-queues.ensures, c.as_slice-others.ensures) c.kinds-kinds.ensures in
    let it : QueuePlace = get_or c.as_slice-queues.result.now c.loop-k.k (record { prim = 0; input = 0; out = 0 }) in
    (queue_placed ms (length ms) c.as_slice-queues.result.now c.as_slice-others.result.now kinds _ c.requires.placed c.loop-k.k it (slice_get-get_or c.as_slice-queues.result.now c.loop-k.k (record { prim = 0; input = 0; out = 0 }) c.loop-k-test.true)).0

pub advance_queue_at-any-requires-clause-room : goal.advance_queue_at-any-requires-clause-room
advance_queue_at-any-requires-clause-room g c =
    let ms : List Component = c.args.evaluator.now.net.prims in
    let kinds : AreKindsTo ms (length ms) c.as_slice-queues.result.now c.as_slice-others.result.now = rw (c.as_slice-queues.ensures, c.as_slice-others.ensures) c.kinds-kinds.ensures in
    let it : QueuePlace = get_or c.as_slice-queues.result.now c.loop-k.k (record { prim = 0; input = 0; out = 0 }) in
    let can = queue_can_by g.C.HasCell.cell ms c.args.cells.now (signals_of c.args.wires.now) c.as_slice-queues.result.now c.as_slice-others.result.now (length ms) kinds c.requires.roomy c.requires.guarded (sym c.requires.roomy.whole)
    c.loop-k.cells c.loop-k.auto.cells c.loop-k.k it (slice_get-get_or c.as_slice-queues.result.now c.loop-k.k (record { prim = 0; input = 0; out = 0 }) c.loop-k-test.true) c.loop-k.invariant.gone c.index-cells-queue.result in
    pass_has_room it.input it.out can.0 _ (signals_of c.args.wires.now) _ refl can.1

pub bounds-changed-queue : goal.bounds-changed-queue
bounds-changed-queue g c =
    let ms : List Component = c.args.evaluator.now.net.prims in
    let kinds : AreKindsTo ms (length ms) c.as_slice-queues.result.now c.as_slice-others.result.now = rw (c.as_slice-queues.ensures, c.as_slice-others.ensures) c.kinds-kinds.ensures in
    let it : QueuePlace = get_or c.as_slice-queues.result.now c.loop-k.k (record { prim = 0; input = 0; out = 0 }) in
    let h = (kinds.queue_at c.loop-k.k it (slice_get-get_or c.as_slice-queues.result.now c.loop-k.k (record { prim = 0; input = 0; out = 0 }) c.loop-k-test.true)).1 in
    omega (arith, h, c.loop-k.auto.changed, c.requires.changed)

pub loop-k-init : goal.loop-k-init
loop-k-init g c = record {
  gone = none_gone _ _ _ _ (λ p among. absurd (let less = among.1.1.0 in omega arith));
  noted = none_noted _ _ _ _ _ (λ p among. absurd (let less = among.1.1.0 in omega arith));
}

pub loop-k-preserved : goal.loop-k-preserved
loop-k-preserved g c =
    let ms : List Component = c.args.evaluator.now.net.prims in
    let kinds : AreKindsTo ms (length ms) c.as_slice-queues.result.now c.as_slice-others.result.now = rw (c.as_slice-queues.ensures, c.as_slice-others.ensures) c.kinds-kinds.ensures in
    let it : QueuePlace = get_or c.as_slice-queues.result.now c.loop-k.k (record { prim = 0; input = 0; out = 0 }) in
    let at = slice_get-get_or c.as_slice-queues.result.now c.loop-k.k (record { prim = 0; input = 0; out = 0 }) c.loop-k-test.true in
    record {
      gone = queue_gone_by g.C.HasCell.cell ms c.args.cells.now (signals_of c.args.wires.now) c.as_slice-queues.result.now c.as_slice-others.result.now (length ms) kinds c.requires.roomy c.requires.guarded (sym c.requires.roomy.whole)
          c.loop-k.cells c.loop-k.auto.cells c.loop-k.k it at c.loop-k.invariant.gone c.index-cells-queue.result c.advance_queue_at-any.new.cell
          (λ capacity initial can. pass_went it.input it.out capacity initial _ _ (signals_of c.args.wires.now) _ _ refl refl c.advance_queue_at-any.ensures.passed can);
      noted = noted_by g.C.HasCell.cell ms c.loop-k.cells c.args.changed.now c.loop-k.changed (signals_of c.args.wires.now) (IsAmongQueues c.as_slice-queues.result.now c.loop-k.k) (IsAmongQueues c.as_slice-queues.result.now (c.loop-k.k + 1)) it.prim c.advance_queue_at-any.new.cell c.advance_queue_at-any.result
          (queue_within_by g.C.HasCell.cell ms c.args.cells.now (signals_of c.args.wires.now) c.as_slice-queues.result.now c.as_slice-others.result.now (length ms) kinds c.requires.roomy c.requires.guarded (sym c.requires.roomy.whole) c.loop-k.cells c.loop-k.auto.cells c.loop-k.k it at c.loop-k.invariant.gone) (queue_out c.as_slice-queues.result.now c.loop-k.k it at) (queue_in c.as_slice-queues.result.now c.loop-k.k) (queue_here c.as_slice-queues.result.now c.loop-k.k it at)
          (λ m has none. let still = c.advance_queue_at-any.ensures.told none in
          queue_idle ms it (kinds.queue_at c.loop-k.k it at).0 m _ (signals_of c.args.wires.now) has still.0 still.1) c.loop-k.invariant.noted;
    }

pub loop-i-init : goal.loop-i-init
loop-i-init g c =
    let ms : List Component = c.args.evaluator.now.net.prims in
    let kinds : AreKindsTo ms (length ms) c.as_slice-queues.result.now c.as_slice-others.result.now = rw (c.as_slice-queues.ensures, c.as_slice-others.ensures) c.kinds-kinds.ensures in
    let all : c.loop-k.k ≡ length c.as_slice-queues.result.now = (let end = c.loop-k.auto.k-end in omega (arith, c.loop-k-test.false)) in (
      c.as_slice-queues.result.now,
      (
        kinds,
        (
          both_from_queues ms (map g.C.HasCell.cell c.args.cells.now) (map g.C.HasCell.cell c.loop-k.cells) (signals_of c.args.wires.now) c.as_slice-queues.result.now c.as_slice-others.result.now c.loop-k.k all c.loop-k.invariant.gone,
          both_noted ms (map g.C.HasCell.cell c.loop-k.cells) c.args.changed.now c.loop-k.changed (signals_of c.args.wires.now) c.as_slice-queues.result.now c.as_slice-others.result.now c.loop-k.k all c.loop-k.invariant.noted,
        ),
      ),
    )

pub bounds-cells-other : goal.bounds-cells-other
bounds-cells-other g c =
    let ms : List Component = c.args.evaluator.now.net.prims in
    let it : Holder = get_or c.as_slice-others.result.now c.loop-i.i (record { prim = 0; holds = holding.Packets 0 0 }) in
    other_within_by g.C.HasCell.cell ms c.args.cells.now (signals_of c.args.wires.now) c.loop-i.invariant.0 c.as_slice-others.result.now (length ms) c.loop-i.invariant.1.0 c.requires.roomy c.requires.guarded (sym c.requires.roomy.whole)
    c.loop-i.cells (c.loop-i.auto.cells ∙ c.loop-k.auto.cells) c.loop-i.i it (slice_get-get_or c.as_slice-others.result.now c.loop-i.i (record { prim = 0; holds = holding.Packets 0 0 }) c.loop-i-test.true) c.loop-i.invariant.1.1.0

pub offset_bounds-cells-other : goal.offset_bounds-cells-other
offset_bounds-cells-other g c = let within = bounds-cells-other g c in search rules

pub advance_other-any-requires : goal.advance_other-any-requires
advance_other-any-requires g c =
    let ms : List Component = c.args.evaluator.now.net.prims in
    let it : Holder = get_or c.as_slice-others.result.now c.loop-i.i (record { prim = 0; holds = holding.Packets 0 0 }) in
    other_can_by g.C.HasCell.cell ms c.args.cells.now (signals_of c.args.wires.now) c.loop-i.invariant.0 c.as_slice-others.result.now (length ms) c.loop-i.invariant.1.0 c.requires.roomy c.requires.guarded (sym c.requires.roomy.whole)
    c.loop-i.cells (c.loop-i.auto.cells ∙ c.loop-k.auto.cells) c.loop-i.i it (slice_get-get_or c.as_slice-others.result.now c.loop-i.i (record { prim = 0; holds = holding.Packets 0 0 }) c.loop-i-test.true) c.loop-i.invariant.1.1.0 c.index-cells-other.result

pub stays_at-stays-requires : goal.stays_at-stays-requires
stays_at-stays-requires g c =
    let it : Holder = get_or c.as_slice-others.result.now c.loop-i.i (record { prim = 0; holds = holding.Packets 0 0 }) in
    let h = (c.loop-i.invariant.1.0.other_at c.loop-i.i it (slice_get-get_or c.as_slice-others.result.now c.loop-i.i (record { prim = 0; holds = holding.Packets 0 0 }) c.loop-i-test.true)).1 in
    omega (arith, h, c.loop-i.auto.changed, c.loop-k.auto.changed, c.requires.changed)

pub bounds-changed-other : goal.bounds-changed-other
bounds-changed-other g c =
    let it : Holder = get_or c.as_slice-others.result.now c.loop-i.i (record { prim = 0; holds = holding.Packets 0 0 }) in
    let h = (c.loop-i.invariant.1.0.other_at c.loop-i.i it (slice_get-get_or c.as_slice-others.result.now c.loop-i.i (record { prim = 0; holds = holding.Packets 0 0 }) c.loop-i-test.true)).1 in
    omega (arith, h, c.loop-i.auto.changed, c.loop-k.auto.changed, c.requires.changed)

pub loop-i-preserved : goal.loop-i-preserved
loop-i-preserved g c =
    let ms : List Component = c.args.evaluator.now.net.prims in
    let it : Holder = get_or c.as_slice-others.result.now c.loop-i.i (record { prim = 0; holds = holding.Packets 0 0 }) in
    let at = slice_get-get_or c.as_slice-others.result.now c.loop-i.i (record { prim = 0; holds = holding.Packets 0 0 }) c.loop-i-test.true in
    let queues = c.loop-i.invariant.0 in
    let kinds = c.loop-i.invariant.1.0 in
    let standing : IsTrue c.stays_at-stays.result → IsStanding it.holds (content_of (g.C.HasCell.cell (get_or c.loop-i.cells it.prim c.index-cells-other.result))) (signals_of c.args.wires.now) = λ stays.
    standing_by g.C.HasCell.cell ms c.args.cells.now (signals_of c.args.wires.now) queues c.as_slice-others.result.now (length ms) kinds c.requires.roomy c.requires.guarded (sym c.requires.roomy.whole)
    c.loop-i.cells (c.loop-i.auto.cells ∙ c.loop-k.auto.cells) c.loop-i.i it at c.loop-i.invariant.1.1.0 c.index-cells-other.result c.args.changed.now c.loop-i.changed c.requires.shown c.loop-i.invariant.1.1.1 (c.stays_at-stays.ensures stays) in (
      queues,
      (
        kinds,
        (
          other_gone_by g.C.HasCell.cell ms c.args.cells.now (signals_of c.args.wires.now) queues c.as_slice-others.result.now (length ms) kinds c.requires.roomy c.requires.guarded (sym c.requires.roomy.whole)
              c.loop-i.cells (c.loop-i.auto.cells ∙ c.loop-k.auto.cells) c.loop-i.i it at c.loop-i.invariant.1.1.0 c.index-cells-other.result c.advance_other-any.new.cell (λ m can. c.advance_other-any.ensures.gone m can standing),
          noted_by g.C.HasCell.cell ms c.loop-i.cells c.args.changed.now c.loop-i.changed (signals_of c.args.wires.now) (IsAmongBoth queues c.as_slice-others.result.now c.loop-i.i) (IsAmongBoth queues c.as_slice-others.result.now (c.loop-i.i + 1)) it.prim c.advance_other-any.new.cell c.advance_other-any.result
              (other_within_by g.C.HasCell.cell ms c.args.cells.now (signals_of c.args.wires.now) queues c.as_slice-others.result.now (length ms) kinds c.requires.roomy c.requires.guarded (sym c.requires.roomy.whole) c.loop-i.cells (c.loop-i.auto.cells ∙ c.loop-k.auto.cells) c.loop-i.i it at c.loop-i.invariant.1.1.0) (other_out queues c.as_slice-others.result.now c.loop-i.i it at) (other_in queues c.as_slice-others.result.now c.loop-i.i) (other_here queues c.as_slice-others.result.now c.loop-i.i it at)
              (λ m has none. c.advance_other-any.ensures.told m (holder_is ms it (kinds.other_at c.loop-i.i it at).0 m has) standing none) c.loop-i.invariant.1.1.1,
        ),
      ),
    )

pub returns-clause-kept : goal.returns-clause-kept
returns-clause-kept g c =
    let ms : List Component = c.args.evaluator.now.net.prims in
    all_gone ms (map g.C.HasCell.cell c.args.cells.now) (signals_of c.args.wires.now) c.loop-i.invariant.0 c.as_slice-others.result.now (length ms) c.loop-i.invariant.1.0 c.requires.roomy c.requires.guarded (sym c.requires.roomy.whole)
    (map g.C.HasCell.cell c.loop-i.cells) c.loop-i.i (same_length g.C.HasCell.cell c.loop-i.cells c.args.cells.now (c.loop-i.auto.cells ∙ c.loop-k.auto.cells)) c.loop-i-test.false refl c.loop-i.invariant.1.1.0

pub returns-clause-noted : goal.returns-clause-noted
returns-clause-noted g c =
    let ms : List Component = c.args.evaluator.now.net.prims in
    all_noted ms (map g.C.HasCell.cell c.loop-i.cells) (length ms) c.loop-i.invariant.0 c.as_slice-others.result.now c.loop-i.invariant.1.0 refl (signals_of c.args.wires.now) c.args.changed.now c.loop-i.changed c.loop-i.i c.loop-i-test.false c.loop-i.invariant.1.1.1
