use Rattle.std.proofs.Common.{◌≡◌, ℕ, length, sym, ap, subst, ◌∙◌}
use Rattle.std.proofs.lemmas.List.{map-id}
use Rattle.xm_model.specs.Component.{Content}
use Rattle.xm_model.specs.Frame.{IsFrame}
use Rattle.xm_model.specs.Lending.{refill-full}
use Rattle.xm_model.specs.Next.{FitsContent}
use Rattle.xm_model.specs.Views.{IsNextOf, choice_at, content_at, signals_of}
use Rattle.xm_step.specs.Inner.Cells.{AreNoted, KeptAdvance}
use Rattle.xm_step.proofs.Noting.{shown_after, shown_in_frame}
use Rattle.xm_plan.specs.Schedule.{ArePlaced}
use Rattle.xm_step.proofs.Keeping.{still_whole}
use Rattle.xm_step.proofs.Planning.{placed_in}
use Rattle.xm_step.specs.Roomy.{IsRoomy, SameRooms}
use Rattle.xm_step.proofs.Advancing.{guarded_from_frame, next_from_cells}
use Rattle.xm_step.proofs.running.step_running.Goals as goal

pub solve-requires-clause-shown : goal.solve-requires-clause-shown
solve-requires-clause-shown c = rw (map-id c.as_slice.result.now, c.as_slice.ensures, c.as_slice-2.ensures, c.as_mut_slice.ensures.value) c.requires.in_step.shown

pub advance_kept-requires-clause-shown : goal.advance_kept-requires-clause-shown
advance_kept-requires-clause-shown c =
    let net = c.args.evaluator.now.net in
    let full = refill-full (length c.args.frame.now.frame.wires.items) c.args.frame.now.frame.wires.items c.solve.new.wires (c.solve.auto.wires ∙ ap length c.as_mut_slice.ensures.value) in
    let made : IsFrame net (content_at c.args.running.now.slots.items) (choice_at net.prims c.args.choices.now) (signals_of c.solve.new.wires) = rw (map-id c.as_slice.result.now, c.as_slice.ensures) at c.solve.ensures.frame in
    rw (map-id c.as_mut_slice-2.result.now, c.as_mut_slice-2.ensures.value, c.as_mut_slice-3.ensures.value, c.as_slice-3.ensures, full)
    (shown_in_frame net (content_at c.args.running.now.slots.items) (choice_at net.prims c.args.choices.now) _ (signals_of c.solve.new.wires) c.args.frame.now.changed.items c.requires.in_step.shown made)

pub advance_kept-requires-clause-guarded : goal.advance_kept-requires-clause-guarded
advance_kept-requires-clause-guarded c =
    let full = refill-full (length c.args.frame.now.frame.wires.items) c.args.frame.now.frame.wires.items c.solve.new.wires (c.solve.auto.wires ∙ ap length c.as_mut_slice.ensures.value) in
    let made : IsFrame c.args.evaluator.now.net (content_at c.args.running.now.slots.items) (choice_at c.args.evaluator.now.net.prims c.args.choices.now) (signals_of c.solve.new.wires) = rw (map-id c.as_slice.result.now, c.as_slice.ensures) at c.solve.ensures.frame in
    rw (map-id c.as_mut_slice-2.result.now, c.as_mut_slice-2.ensures.value, c.as_slice-3.ensures, full) (guarded_from_frame c.args.evaluator.now.net c.args.running.now.slots.items c.solve.new.wires (record { choices = choice_at c.args.evaluator.now.net.prims c.args.choices.now; frame = made }))

pub advance_kept-requires-clause-placed : goal.advance_kept-requires-clause-placed
advance_kept-requires-clause-placed c =
    let net = c.args.evaluator.now.net in
    let full = refill-full (length c.args.frame.now.frame.wires.items) c.args.frame.now.frame.wires.items c.solve.new.wires (c.solve.auto.wires ∙ ap length c.as_mut_slice.ensures.value) in
    let whole : net.channels ≡ length c.as_slice-3.result.now = sym (ap length c.as_slice-3.ensures ∙ ap length full ∙ c.solve.auto.wires ∙ ap length c.as_mut_slice.ensures.value ∙ c.requires.in_step.wires) in
    subst (λ (n : ℕ). ArePlaced net.prims n) whole (placed_in net c.design.ensures.designed.net)

pub returns-clause-frame : goal.returns-clause-frame
returns-clause-frame c =
    let full = refill-full (length c.args.frame.now.frame.wires.items) c.args.frame.now.frame.wires.items c.solve.new.wires (c.solve.auto.wires ∙ ap length c.as_mut_slice.ensures.value) in
    let made : IsFrame c.args.evaluator.now.net (content_at c.args.running.now.slots.items) (choice_at c.args.evaluator.now.net.prims c.args.choices.now) (signals_of c.solve.new.wires) = rw (map-id c.as_slice.result.now, c.as_slice.ensures) at c.solve.ensures.frame in
    rw full (record { whole = c.solve.auto.wires ∙ ap length c.as_mut_slice.ensures.value ∙ c.requires.in_step.wires; frame = made })

pub returns-clause-only : goal.returns-clause-only
returns-clause-only c φ is_frame =
    let full = refill-full (length c.args.frame.now.frame.wires.items) c.args.frame.now.frame.wires.items c.solve.new.wires (c.solve.auto.wires ∙ ap length c.as_mut_slice.ensures.value) in
    let made : IsFrame c.args.evaluator.now.net (content_at c.args.running.now.slots.items) (choice_at c.args.evaluator.now.net.prims c.args.choices.now) (signals_of c.solve.new.wires) = rw (map-id c.as_slice.result.now, c.as_slice.ensures) at c.solve.ensures.frame in
    rw full ((c.one_frame.ensures c.args.evaluator.now.net c.args.evaluator.now.order (content_at c.args.running.now.slots.items) (choice_at c.args.evaluator.now.net.prims c.args.choices.now) c.design.ensures.designed.net c.design.ensures.designed.order).1 φ (signals_of c.solve.new.wires) is_frame made)

pub returns-clause-next : goal.returns-clause-next
returns-clause-next c =
    let full = refill-full (length c.args.frame.now.frame.wires.items) c.args.frame.now.frame.wires.items c.solve.new.wires (c.solve.auto.wires ∙ ap length c.as_mut_slice.ensures.value) in
    let kept : KeptAdvance c.args.evaluator.now.net.prims c.args.running.now.slots.items c.advance_kept.new.cells (signals_of c.solve.new.wires) = rw (map-id c.as_mut_slice-2.result.now, map-id c.advance_kept.new.cells, c.as_mut_slice-2.ensures.value, c.as_slice-3.ensures, full) at c.advance_kept.ensures.kept in
    let end = still_whole _ _ _ _ c.requires.roomy c.requires.still kept in
    rw (full, end.whole) (next_from_cells c.args.evaluator.now.net c.args.running.now.slots.items c.advance_kept.new.cells (signals_of c.solve.new.wires) c.requires.roomy.whole end.went)

pub returns-clause-roomy : goal.returns-clause-roomy
returns-clause-roomy c =
    let full = refill-full (length c.args.frame.now.frame.wires.items) c.args.frame.now.frame.wires.items c.solve.new.wires (c.solve.auto.wires ∙ ap length c.as_mut_slice.ensures.value) in
    let kept : KeptAdvance c.args.evaluator.now.net.prims c.args.running.now.slots.items c.advance_kept.new.cells (signals_of c.solve.new.wires) = rw (map-id c.as_mut_slice-2.result.now, map-id c.advance_kept.new.cells, c.as_mut_slice-2.ensures.value, c.as_slice-3.ensures, full) at c.advance_kept.ensures.kept in
    let end = still_whole _ _ _ _ c.requires.roomy c.requires.still kept in
    let roomy : IsRoomy c.args.evaluator.now.net.prims c.advance_kept.new.cells = record { whole = end.went.whole ∙ c.requires.roomy.whole; roomy = λ p m has. (end.went.advanced p m has).roomy } in
    rw end.whole roomy

pub returns-clause-fitting : goal.returns-clause-fitting
returns-clause-fitting c = λ fitting choices p m has.
    let full = refill-full (length c.args.frame.now.frame.wires.items) c.args.frame.now.frame.wires.items c.solve.new.wires (c.solve.auto.wires ∙ ap length c.as_mut_slice.ensures.value) in
    let made : IsFrame c.args.evaluator.now.net (content_at c.args.running.now.slots.items) (choice_at c.args.evaluator.now.net.prims c.args.choices.now) (signals_of c.solve.new.wires) = rw (map-id c.as_slice.result.now, c.as_slice.ensures) at c.solve.ensures.frame in
    let kept : KeptAdvance c.args.evaluator.now.net.prims c.args.running.now.slots.items c.advance_kept.new.cells (signals_of c.solve.new.wires) = rw (map-id c.as_mut_slice-2.result.now, map-id c.advance_kept.new.cells, c.as_mut_slice-2.ensures.value, c.as_slice-3.ensures, full) at c.advance_kept.ensures.kept in
    let end = still_whole _ _ _ _ c.requires.roomy c.requires.still kept in
    let net = c.args.evaluator.now.net in
    let next : IsNextOf c.args.evaluator.now.net c.args.running.now.slots.items (signals_of c.solve.new.wires) c.advance_kept.new.cells = next_from_cells c.args.evaluator.now.net c.args.running.now.slots.items c.advance_kept.new.cells (signals_of c.solve.new.wires) c.requires.roomy.whole end.went in
    let law = c.fits_next.ensures net c.args.evaluator.now.order (content_at c.args.running.now.slots.items) (choice_at net.prims c.args.choices.now) (signals_of c.solve.new.wires) c.design.ensures.designed.net c.design.ensures.designed.order fitting choices made in
    rw end.whole (subst (λ (x : Content). FitsContent c.args.evaluator.now.net.colours m x) (sym (next.same p)) (law p m has))

pub returns-clause-rooms : goal.returns-clause-rooms
returns-clause-rooms c =
    let full = refill-full (length c.args.frame.now.frame.wires.items) c.args.frame.now.frame.wires.items c.solve.new.wires (c.solve.auto.wires ∙ ap length c.as_mut_slice.ensures.value) in
    let kept : KeptAdvance c.args.evaluator.now.net.prims c.args.running.now.slots.items c.advance_kept.new.cells (signals_of c.solve.new.wires) = rw (map-id c.as_mut_slice-2.result.now, map-id c.advance_kept.new.cells, c.as_mut_slice-2.ensures.value, c.as_slice-3.ensures, full) at c.advance_kept.ensures.kept in
    let end = still_whole _ _ _ _ c.requires.roomy c.requires.still kept in
    let same : SameRooms c.args.evaluator.now.net.prims c.args.running.now.slots.items c.advance_kept.new.cells = λ p m there. (end.went.advanced p m there).room in
    rw end.whole same

pub returns-clause-in_step : goal.returns-clause-in_step
returns-clause-in_step c =
    let net = c.args.evaluator.now.net in
    let full = refill-full (length c.args.frame.now.frame.wires.items) c.args.frame.now.frame.wires.items c.solve.new.wires (c.solve.auto.wires ∙ ap length c.as_mut_slice.ensures.value) in
    let made : IsFrame net (content_at c.args.running.now.slots.items) (choice_at net.prims c.args.choices.now) (signals_of c.solve.new.wires) = rw (map-id c.as_slice.result.now, c.as_slice.ensures) at c.solve.ensures.frame in
    let kept : KeptAdvance net.prims c.args.running.now.slots.items c.advance_kept.new.cells (signals_of c.solve.new.wires) = rw (map-id c.as_mut_slice-2.result.now, map-id c.advance_kept.new.cells, c.as_mut_slice-2.ensures.value, c.as_slice-3.ensures, full) at c.advance_kept.ensures.kept in
    let end = still_whole _ _ _ _ c.requires.roomy c.requires.still kept in
    let next : IsNextOf net c.args.running.now.slots.items (signals_of c.solve.new.wires) c.advance_kept.new.cells = next_from_cells net c.args.running.now.slots.items c.advance_kept.new.cells (signals_of c.solve.new.wires) c.requires.roomy.whole end.went in
    let noted : AreNoted net.prims c.advance_kept.new.cells c.advance_kept.new.changed (signals_of c.solve.new.wires) = rw (map-id c.advance_kept.new.cells, c.as_slice-3.ensures, full) at c.advance_kept.ensures.noted in
    let many : length c.advance_kept.new.changed ≡ length c.args.frame.now.changed.items = c.advance_kept.auto.changed ∙ ap length c.as_mut_slice-3.ensures.value in
    rw (full, end.whole, refill-full (length c.args.frame.now.changed.items) c.args.frame.now.changed.items c.advance_kept.new.changed many) (record {
      wires = c.solve.auto.wires ∙ ap length c.as_mut_slice.ensures.value ∙ c.requires.in_step.wires;
      changed = many ∙ c.requires.in_step.changed;
      shown = shown_after net c.args.running.now.slots.items c.advance_kept.new.cells (choice_at net.prims c.args.choices.now) (signals_of c.solve.new.wires) c.advance_kept.new.changed made next noted;
    })
