use Rattle.std.proofs.Common.{map, refl, ap, ◌∙◌, arith, slice_get}
use Rattle.xm_model.specs.Component.{component_of, content_of}
use Rattle.xm_model.specs.Views.{choice_or, content_at, signals_of}
use Rattle.xm_plan.proofs.Operating.{cell_read, component_read, done_from, fork_done, fork_plain_done, function_done, join_done, merge_done, places_below, prim_within, queue_done, sink_choice, sink_done, source_choice, source_done, switch_offers_done, switch_ready_done}
use Rattle.xm_plan.proofs.Places.{choice_read}
use Rattle.xm_plan.specs.Inner.Operations.{signals_made, table_a_in, table_b_in, table_in, to_a_in}
use Rattle.xm_plan.specs.Planned.{choice_for}
use Rattle.xm_plan.specs.declared.operation.Operation.{Operation}
use Rattle.xm_plan.specs.declared.operation.Operation.TheVariants as operation
use Rattle.xm_plan.proofs.making.make.Goals as goal

pub make_source-requires : goal.make_source-requires
make_source-requires g c = (places_below _ c.args.choices.now _ c.requires.placed _ (rw c.in-Source.is at c.requires.fits)).0

pub bounds-cells-prim-in-Sink : goal.bounds-cells-prim-in-Sink
bounds-cells-prim-in-Sink g c =
    let h = prim_within c.args.prims.now c.args.choices.now _ (rw c.in-Sink.is at c.requires.fits) in
    omega arith

pub make_sink-requires : goal.make_sink-requires
make_sink-requires g c = (places_below _ c.args.choices.now _ c.requires.placed _ (rw c.in-Sink.is at c.requires.fits)).0

pub bounds-cells-prim-in-Queue : goal.bounds-cells-prim-in-Queue
bounds-cells-prim-in-Queue g c =
    let h = prim_within c.args.prims.now c.args.choices.now _ (rw c.in-Queue.is at c.requires.fits) in
    omega arith

pub make_queue-requires-clause-input : goal.make_queue-requires-clause-input
make_queue-requires-clause-input g c = (places_below _ c.args.choices.now _ c.requires.placed _ (rw c.in-Queue.is at c.requires.fits)).0

pub make_queue-requires-clause-out : goal.make_queue-requires-clause-out
make_queue-requires-clause-out g c = (places_below _ c.args.choices.now _ c.requires.placed _ (rw c.in-Queue.is at c.requires.fits)).1.0

pub bounds-prims-prim : goal.bounds-prims-prim
bounds-prims-prim g c =
    let h = prim_within c.args.prims.now c.args.choices.now _ (rw c.in-Function.is at c.requires.fits) in
    omega arith

pub make_function-requires-clause-input : goal.make_function-requires-clause-input
make_function-requires-clause-input g c = (places_below _ c.args.choices.now _ c.requires.placed _ (rw c.in-Function.is at c.requires.fits)).0

pub make_function-requires-clause-out : goal.make_function-requires-clause-out
make_function-requires-clause-out g c = (places_below _ c.args.choices.now _ c.requires.placed _ (rw c.in-Function.is at c.requires.fits)).1.0

pub make_plain_fork-requires-clause-input : goal.make_plain_fork-requires-clause-input
make_plain_fork-requires-clause-input g c = (places_below _ c.args.choices.now _ c.requires.placed _ (rw c.in-ForkPlain.is at c.requires.fits)).0

pub make_plain_fork-requires-clause-a : goal.make_plain_fork-requires-clause-a
make_plain_fork-requires-clause-a g c = (places_below _ c.args.choices.now _ c.requires.placed _ (rw c.in-ForkPlain.is at c.requires.fits)).1.0

pub make_plain_fork-requires-clause-b : goal.make_plain_fork-requires-clause-b
make_plain_fork-requires-clause-b g c = (places_below _ c.args.choices.now _ c.requires.placed _ (rw c.in-ForkPlain.is at c.requires.fits)).1.1.0

pub bounds-prims-prim-in-Fork : goal.bounds-prims-prim-in-Fork
bounds-prims-prim-in-Fork g c =
    let h = prim_within c.args.prims.now c.args.choices.now _ (rw c.in-Fork.is at c.requires.fits) in
    omega arith

pub make_fork-requires-clause-input : goal.make_fork-requires-clause-input
make_fork-requires-clause-input g c = (places_below _ c.args.choices.now _ c.requires.placed _ (rw c.in-Fork.is at c.requires.fits)).0

pub make_fork-requires-clause-a : goal.make_fork-requires-clause-a
make_fork-requires-clause-a g c = (places_below _ c.args.choices.now _ c.requires.placed _ (rw c.in-Fork.is at c.requires.fits)).1.0

pub make_fork-requires-clause-b : goal.make_fork-requires-clause-b
make_fork-requires-clause-b g c = (places_below _ c.args.choices.now _ c.requires.placed _ (rw c.in-Fork.is at c.requires.fits)).1.1.0

pub bounds-prims-prim-in-SwitchOffers : goal.bounds-prims-prim-in-SwitchOffers
bounds-prims-prim-in-SwitchOffers g c =
    let h = prim_within c.args.prims.now c.args.choices.now _ (rw c.in-SwitchOffers.is at c.requires.fits) in
    omega arith

pub make_switch_offers-requires-clause-input : goal.make_switch_offers-requires-clause-input
make_switch_offers-requires-clause-input g c = (places_below _ c.args.choices.now _ c.requires.placed _ (rw c.in-SwitchOffers.is at c.requires.fits)).0

pub make_switch_offers-requires-clause-a : goal.make_switch_offers-requires-clause-a
make_switch_offers-requires-clause-a g c = (places_below _ c.args.choices.now _ c.requires.placed _ (rw c.in-SwitchOffers.is at c.requires.fits)).1.0

pub make_switch_offers-requires-clause-b : goal.make_switch_offers-requires-clause-b
make_switch_offers-requires-clause-b g c = (places_below _ c.args.choices.now _ c.requires.placed _ (rw c.in-SwitchOffers.is at c.requires.fits)).1.1.0

pub bounds-prims-prim-in-SwitchReady : goal.bounds-prims-prim-in-SwitchReady
bounds-prims-prim-in-SwitchReady g c =
    let h = prim_within c.args.prims.now c.args.choices.now _ (rw c.in-SwitchReady.is at c.requires.fits) in
    omega arith

pub make_switch_ready-requires-clause-input : goal.make_switch_ready-requires-clause-input
make_switch_ready-requires-clause-input g c = (places_below _ c.args.choices.now _ c.requires.placed _ (rw c.in-SwitchReady.is at c.requires.fits)).0

pub make_switch_ready-requires-clause-a : goal.make_switch_ready-requires-clause-a
make_switch_ready-requires-clause-a g c = (places_below _ c.args.choices.now _ c.requires.placed _ (rw c.in-SwitchReady.is at c.requires.fits)).1.0

pub make_switch_ready-requires-clause-b : goal.make_switch_ready-requires-clause-b
make_switch_ready-requires-clause-b g c = (places_below _ c.args.choices.now _ c.requires.placed _ (rw c.in-SwitchReady.is at c.requires.fits)).1.1.0

pub bounds-cells-prim-in-Merge : goal.bounds-cells-prim-in-Merge
bounds-cells-prim-in-Merge g c =
    let h = prim_within c.args.prims.now c.args.choices.now _ (rw c.in-Merge.is at c.requires.fits) in
    omega arith

pub make_join-requires-clause-a : goal.make_join-requires-clause-a
make_join-requires-clause-a g c = (places_below _ c.args.choices.now _ c.requires.placed _ (rw c.in-Join.is at c.requires.fits)).0

pub make_join-requires-clause-b : goal.make_join-requires-clause-b
make_join-requires-clause-b g c = (places_below _ c.args.choices.now _ c.requires.placed _ (rw c.in-Join.is at c.requires.fits)).1.0

pub make_join-requires-clause-out : goal.make_join-requires-clause-out
make_join-requires-clause-out g c = (places_below _ c.args.choices.now _ c.requires.placed _ (rw c.in-Join.is at c.requires.fits)).1.1.0

pub make_merge-requires-clause-a : goal.make_merge-requires-clause-a
make_merge-requires-clause-a g c = (places_below _ c.args.choices.now _ c.requires.placed _ (rw c.in-Merge.is at c.requires.fits)).0

pub make_merge-requires-clause-b : goal.make_merge-requires-clause-b
make_merge-requires-clause-b g c = (places_below _ c.args.choices.now _ c.requires.placed _ (rw c.in-Merge.is at c.requires.fits)).1.0

pub make_merge-requires-clause-out : goal.make_merge-requires-clause-out
make_merge-requires-clause-out g c = (places_below _ c.args.choices.now _ c.requires.placed _ (rw c.in-Merge.is at c.requires.fits)).1.1.0

pub bounds-prims-p : goal.bounds-prims-p
bounds-prims-p g c =
    let h = prim_within c.args.prims.now c.args.choices.now _ (rw c.in-One.is at c.requires.fits) in
    omega arith

pub bounds-cells-p : goal.bounds-cells-p
bounds-cells-p g c =
    let h = prim_within c.args.prims.now c.args.choices.now _ (rw c.in-One.is at c.requires.fits) in
    omega arith

pub bounds-choices-p : goal.bounds-choices-p
bounds-choices-p g c =
    let h = prim_within c.args.prims.now c.args.choices.now _ (rw c.in-One.is at c.requires.fits) in
    omega arith

pub make_one-requires : goal.make_one-requires
make_one-requires g c = (places_below _ c.args.choices.now _ c.requires.placed _ (rw c.in-One.is at c.requires.fits)).0

pub returns-in-Source : goal.returns-in-Source
returns-in-Source g c =
    let op : Operation = (operation.Source c.in-Source.prim c.in-Source.out c.in-Source.choice c.in-Source.mode) in
    let fits = rw c.in-Source.is at c.requires.fits in
    rw c.in-Source.is (done_from (map component_of c.args.prims.now) c.args.choices.now (content_at (map g.C.HasCell.cell c.args.cells.now)) (choice_for c.args.choices.now c.args.row.now) (signals_of c.args.wires.now) (signals_of c.make_source.new.wires) op fits (content_of (g.C.HasCell.cell c.index-cells-prim.result)) (choice_or (slice_get c.args.row.now c.in-Source.choice)) (cell_read g.C.HasCell.cell c.args.cells.now c.in-Source.prim c.index-cells-prim.result (let h = prim_within c.args.prims.now c.args.choices.now op fits in omega arith) c.index-cells-prim.is) (choice_read c.args.choices.now c.args.row.now c.in-Source.prim c.in-Source.choice (source_choice c.args.choices.now fits.prim c.in-Source.prim c.in-Source.out c.in-Source.choice c.in-Source.mode fits.is))
    (source_done c.args.choices.now fits.prim (content_of (g.C.HasCell.cell c.index-cells-prim.result)) (choice_or (slice_get c.args.row.now c.in-Source.choice)) (signals_of c.args.wires.now) (signals_of c.make_source.new.wires) c.in-Source.prim c.in-Source.out c.in-Source.choice c.in-Source.mode fits.is c.make_source.ensures))

pub returns-in-Sink : goal.returns-in-Sink
returns-in-Sink g c =
    let op : Operation = (operation.Sink c.in-Sink.prim c.in-Sink.input c.in-Sink.choice c.in-Sink.mode) in
    let fits = rw c.in-Sink.is at c.requires.fits in
    rw c.in-Sink.is (done_from (map component_of c.args.prims.now) c.args.choices.now (content_at (map g.C.HasCell.cell c.args.cells.now)) (choice_for c.args.choices.now c.args.row.now) (signals_of c.args.wires.now) (signals_of c.make_sink.new.wires) op fits (content_of (g.C.HasCell.cell c.index-cells-prim-in-Sink.result)) (choice_or (slice_get c.args.row.now c.in-Sink.choice)) (cell_read g.C.HasCell.cell c.args.cells.now c.in-Sink.prim c.index-cells-prim-in-Sink.result (let h = prim_within c.args.prims.now c.args.choices.now op fits in omega arith) c.index-cells-prim-in-Sink.is) (choice_read c.args.choices.now c.args.row.now c.in-Sink.prim c.in-Sink.choice (sink_choice c.args.choices.now fits.prim c.in-Sink.prim c.in-Sink.input c.in-Sink.choice c.in-Sink.mode fits.is))
    (sink_done c.args.choices.now fits.prim (content_of (g.C.HasCell.cell c.index-cells-prim-in-Sink.result)) (choice_or (slice_get c.args.row.now c.in-Sink.choice)) (signals_of c.args.wires.now) (signals_of c.make_sink.new.wires) c.in-Sink.prim c.in-Sink.input c.in-Sink.choice c.in-Sink.mode fits.is c.make_sink.ensures))

pub returns-in-Queue : goal.returns-in-Queue
returns-in-Queue g c =
    let op : Operation = (operation.Queue c.in-Queue.prim c.in-Queue.input c.in-Queue.out c.in-Queue.capacity) in
    let fits = rw c.in-Queue.is at c.requires.fits in
    rw c.in-Queue.is (done_from (map component_of c.args.prims.now) c.args.choices.now (content_at (map g.C.HasCell.cell c.args.cells.now)) (choice_for c.args.choices.now c.args.row.now) (signals_of c.args.wires.now) (signals_of c.make_queue.new.wires) op fits (content_of (g.C.HasCell.cell c.index-cells-prim-in-Queue.result)) (choice_for c.args.choices.now c.args.row.now c.in-Queue.prim) (cell_read g.C.HasCell.cell c.args.cells.now c.in-Queue.prim c.index-cells-prim-in-Queue.result (let h = prim_within c.args.prims.now c.args.choices.now op fits in omega arith) c.index-cells-prim-in-Queue.is) refl
    (queue_done c.args.choices.now fits.prim (content_of (g.C.HasCell.cell c.index-cells-prim-in-Queue.result)) (choice_for c.args.choices.now c.args.row.now c.in-Queue.prim) (signals_of c.args.wires.now) (signals_of c.make_queue.new.wires) c.in-Queue.prim c.in-Queue.input c.in-Queue.out c.in-Queue.capacity (signals_made op) fits.is (λ initial. c.make_queue.ensures initial (choice_for c.args.choices.now c.args.row.now c.in-Queue.prim))))

pub returns-in-Function : goal.returns-in-Function
returns-in-Function g c =
    let op : Operation = (operation.Function c.in-Function.prim c.in-Function.input c.in-Function.out) in
    let fits = rw c.in-Function.is at c.requires.fits in
    let same = component_read c.args.prims.now c.in-Function.prim c.index-prims-prim.result fits.prim (prim_within c.args.prims.now c.args.choices.now op fits) c.index-prims-prim.is fits.has in
    rw c.in-Function.is (done_from (map component_of c.args.prims.now) c.args.choices.now (content_at (map g.C.HasCell.cell c.args.cells.now)) (choice_for c.args.choices.now c.args.row.now) (signals_of c.args.wires.now) (signals_of c.make_function.new.wires) op fits (content_at (map g.C.HasCell.cell c.args.cells.now) c.in-Function.prim) (choice_for c.args.choices.now c.args.row.now c.in-Function.prim) refl refl
    (function_done c.args.choices.now fits.prim (content_at (map g.C.HasCell.cell c.args.cells.now) c.in-Function.prim) (choice_for c.args.choices.now c.args.row.now c.in-Function.prim) (signals_of c.args.wires.now) (signals_of c.make_function.new.wires) c.in-Function.prim c.in-Function.input c.in-Function.out (signals_made op) fits.is (rw (c.table.ensures ∙ ap table_in same) at (c.make_function.ensures (content_at (map g.C.HasCell.cell c.args.cells.now) c.in-Function.prim) (choice_for c.args.choices.now c.args.row.now c.in-Function.prim)))))

pub returns-in-ForkPlain : goal.returns-in-ForkPlain
returns-in-ForkPlain g c =
    let op : Operation = (operation.ForkPlain c.in-ForkPlain.prim c.in-ForkPlain.input c.in-ForkPlain.a c.in-ForkPlain.b c.in-ForkPlain.colours) in
    let fits = rw c.in-ForkPlain.is at c.requires.fits in
    rw c.in-ForkPlain.is (done_from (map component_of c.args.prims.now) c.args.choices.now (content_at (map g.C.HasCell.cell c.args.cells.now)) (choice_for c.args.choices.now c.args.row.now) (signals_of c.args.wires.now) (signals_of c.make_plain_fork.new.wires) op fits (content_at (map g.C.HasCell.cell c.args.cells.now) c.in-ForkPlain.prim) (choice_for c.args.choices.now c.args.row.now c.in-ForkPlain.prim) refl refl
    (fork_plain_done c.args.choices.now fits.prim (content_at (map g.C.HasCell.cell c.args.cells.now) c.in-ForkPlain.prim) (choice_for c.args.choices.now c.args.row.now c.in-ForkPlain.prim) (signals_of c.args.wires.now) (signals_of c.make_plain_fork.new.wires) c.in-ForkPlain.prim c.in-ForkPlain.input c.in-ForkPlain.a c.in-ForkPlain.b c.in-ForkPlain.colours (signals_made op) fits.is (λ ta tb. c.make_plain_fork.ensures ta tb (content_at (map g.C.HasCell.cell c.args.cells.now) c.in-ForkPlain.prim) (choice_for c.args.choices.now c.args.row.now c.in-ForkPlain.prim))))

pub returns-in-Fork : goal.returns-in-Fork
returns-in-Fork g c =
    let op : Operation = (operation.Fork c.in-Fork.prim c.in-Fork.input c.in-Fork.a c.in-Fork.b) in
    let fits = rw c.in-Fork.is at c.requires.fits in
    let same = component_read c.args.prims.now c.in-Fork.prim c.index-prims-prim-in-Fork.result fits.prim (prim_within c.args.prims.now c.args.choices.now op fits) c.index-prims-prim-in-Fork.is fits.has in
    rw c.in-Fork.is (done_from (map component_of c.args.prims.now) c.args.choices.now (content_at (map g.C.HasCell.cell c.args.cells.now)) (choice_for c.args.choices.now c.args.row.now) (signals_of c.args.wires.now) (signals_of c.make_fork.new.wires) op fits (content_at (map g.C.HasCell.cell c.args.cells.now) c.in-Fork.prim) (choice_for c.args.choices.now c.args.row.now c.in-Fork.prim) refl refl
    (fork_done c.args.choices.now fits.prim (content_at (map g.C.HasCell.cell c.args.cells.now) c.in-Fork.prim) (choice_for c.args.choices.now c.args.row.now c.in-Fork.prim) (signals_of c.args.wires.now) (signals_of c.make_fork.new.wires) c.in-Fork.prim c.in-Fork.input c.in-Fork.a c.in-Fork.b (signals_made op) fits.is (rw ((c.table_a.ensures ∙ ap table_a_in same), (c.table_b.ensures ∙ ap table_b_in same)) at (c.make_fork.ensures (content_at (map g.C.HasCell.cell c.args.cells.now) c.in-Fork.prim) (choice_for c.args.choices.now c.args.row.now c.in-Fork.prim)))))

pub returns-in-Join : goal.returns-in-Join
returns-in-Join g c =
    let op : Operation = (operation.Join c.in-Join.prim c.in-Join.a c.in-Join.b c.in-Join.out c.in-Join.pass) in
    let fits = rw c.in-Join.is at c.requires.fits in
    rw c.in-Join.is (done_from (map component_of c.args.prims.now) c.args.choices.now (content_at (map g.C.HasCell.cell c.args.cells.now)) (choice_for c.args.choices.now c.args.row.now) (signals_of c.args.wires.now) (signals_of c.make_join.new.wires) op fits (content_at (map g.C.HasCell.cell c.args.cells.now) c.in-Join.prim) (choice_for c.args.choices.now c.args.row.now c.in-Join.prim) refl refl
    (join_done c.args.choices.now fits.prim (content_at (map g.C.HasCell.cell c.args.cells.now) c.in-Join.prim) (choice_for c.args.choices.now c.args.row.now c.in-Join.prim) (signals_of c.args.wires.now) (signals_of c.make_join.new.wires) c.in-Join.prim c.in-Join.a c.in-Join.b c.in-Join.out c.in-Join.pass (signals_made op) fits.is (c.make_join.ensures (content_at (map g.C.HasCell.cell c.args.cells.now) c.in-Join.prim) (choice_for c.args.choices.now c.args.row.now c.in-Join.prim))))

pub returns-in-SwitchOffers : goal.returns-in-SwitchOffers
returns-in-SwitchOffers g c =
    let op : Operation = (operation.SwitchOffers c.in-SwitchOffers.prim c.in-SwitchOffers.input c.in-SwitchOffers.a c.in-SwitchOffers.b) in
    let fits = rw c.in-SwitchOffers.is at c.requires.fits in
    let same = component_read c.args.prims.now c.in-SwitchOffers.prim c.index-prims-prim-in-SwitchOffers.result fits.prim (prim_within c.args.prims.now c.args.choices.now op fits) c.index-prims-prim-in-SwitchOffers.is fits.has in
    rw c.in-SwitchOffers.is (done_from (map component_of c.args.prims.now) c.args.choices.now (content_at (map g.C.HasCell.cell c.args.cells.now)) (choice_for c.args.choices.now c.args.row.now) (signals_of c.args.wires.now) (signals_of c.make_switch_offers.new.wires) op fits (content_at (map g.C.HasCell.cell c.args.cells.now) c.in-SwitchOffers.prim) (choice_for c.args.choices.now c.args.row.now c.in-SwitchOffers.prim) refl refl
    (switch_offers_done c.args.choices.now fits.prim (content_at (map g.C.HasCell.cell c.args.cells.now) c.in-SwitchOffers.prim) (choice_for c.args.choices.now c.args.row.now c.in-SwitchOffers.prim) (signals_of c.args.wires.now) (signals_of c.make_switch_offers.new.wires) c.in-SwitchOffers.prim c.in-SwitchOffers.input c.in-SwitchOffers.a c.in-SwitchOffers.b (signals_made op) fits.is (rw (c.to_a.ensures ∙ ap to_a_in same) at (c.make_switch_offers.ensures (content_at (map g.C.HasCell.cell c.args.cells.now) c.in-SwitchOffers.prim) (choice_for c.args.choices.now c.args.row.now c.in-SwitchOffers.prim)))))

pub returns-in-SwitchReady : goal.returns-in-SwitchReady
returns-in-SwitchReady g c =
    let op : Operation = (operation.SwitchReady c.in-SwitchReady.prim c.in-SwitchReady.input c.in-SwitchReady.a c.in-SwitchReady.b) in
    let fits = rw c.in-SwitchReady.is at c.requires.fits in
    let same = component_read c.args.prims.now c.in-SwitchReady.prim c.index-prims-prim-in-SwitchReady.result fits.prim (prim_within c.args.prims.now c.args.choices.now op fits) c.index-prims-prim-in-SwitchReady.is fits.has in
    rw c.in-SwitchReady.is (done_from (map component_of c.args.prims.now) c.args.choices.now (content_at (map g.C.HasCell.cell c.args.cells.now)) (choice_for c.args.choices.now c.args.row.now) (signals_of c.args.wires.now) (signals_of c.make_switch_ready.new.wires) op fits (content_at (map g.C.HasCell.cell c.args.cells.now) c.in-SwitchReady.prim) (choice_for c.args.choices.now c.args.row.now c.in-SwitchReady.prim) refl refl
    (switch_ready_done c.args.choices.now fits.prim (content_at (map g.C.HasCell.cell c.args.cells.now) c.in-SwitchReady.prim) (choice_for c.args.choices.now c.args.row.now c.in-SwitchReady.prim) (signals_of c.args.wires.now) (signals_of c.make_switch_ready.new.wires) c.in-SwitchReady.prim c.in-SwitchReady.input c.in-SwitchReady.a c.in-SwitchReady.b (signals_made op) fits.is (rw (c.to_a-in-SwitchReady.ensures ∙ ap to_a_in same) at (c.make_switch_ready.ensures (content_at (map g.C.HasCell.cell c.args.cells.now) c.in-SwitchReady.prim) (choice_for c.args.choices.now c.args.row.now c.in-SwitchReady.prim)))))

pub returns-in-Merge : goal.returns-in-Merge
returns-in-Merge g c =
    let op : Operation = (operation.Merge c.in-Merge.prim c.in-Merge.a c.in-Merge.b c.in-Merge.out) in
    let fits = rw c.in-Merge.is at c.requires.fits in
    rw c.in-Merge.is (done_from (map component_of c.args.prims.now) c.args.choices.now (content_at (map g.C.HasCell.cell c.args.cells.now)) (choice_for c.args.choices.now c.args.row.now) (signals_of c.args.wires.now) (signals_of c.make_merge.new.wires) op fits (content_of (g.C.HasCell.cell c.index-cells-prim-in-Merge.result)) (choice_for c.args.choices.now c.args.row.now c.in-Merge.prim) (cell_read g.C.HasCell.cell c.args.cells.now c.in-Merge.prim c.index-cells-prim-in-Merge.result (let h = prim_within c.args.prims.now c.args.choices.now op fits in omega arith) c.index-cells-prim-in-Merge.is) refl
    (merge_done c.args.choices.now fits.prim (content_of (g.C.HasCell.cell c.index-cells-prim-in-Merge.result)) (choice_for c.args.choices.now c.args.row.now c.in-Merge.prim) (signals_of c.args.wires.now) (signals_of c.make_merge.new.wires) c.in-Merge.prim c.in-Merge.a c.in-Merge.b c.in-Merge.out (signals_made op) fits.is (c.make_merge.ensures (choice_for c.args.choices.now c.args.row.now c.in-Merge.prim))))

pub returns-in-One : goal.returns-in-One
returns-in-One g c =
    let op : Operation = operation.One c.in-One.task in
    let fits = rw c.in-One.is at c.requires.fits in
    let same = component_read c.args.prims.now c.in-One.task.prim c.index-prims-p.result fits.prim (prim_within c.args.prims.now c.args.choices.now op fits) c.index-prims-p.is fits.has in
    rw c.in-One.is (done_from (map component_of c.args.prims.now) c.args.choices.now (content_at (map g.C.HasCell.cell c.args.cells.now)) (choice_for c.args.choices.now c.args.row.now) (signals_of c.args.wires.now) (signals_of c.make_one.new.wires) op fits (content_of (g.C.HasCell.cell c.index-cells-p.result)) (choice_for c.args.choices.now c.args.row.now c.in-One.task.prim)
    (cell_read g.C.HasCell.cell c.args.cells.now c.in-One.task.prim c.index-cells-p.result (let h = prim_within c.args.prims.now c.args.choices.now op fits in omega arith) c.index-cells-p.is) refl
    (rw same at c.make_one.ensures))
