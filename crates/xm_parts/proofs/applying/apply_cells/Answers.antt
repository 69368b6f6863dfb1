use Rattle.std.proofs.Common.{◌≡◌, ◌<◌, ℕ, length, get_or, set, ap, subst, sym, ◌∙◌, refl, arith}
use Rattle.std.proofs.lemmas.Option.{slice_get_read}
use Rattle.xm_model.specs.Component.{content_of}
use Rattle.xm_model.specs.declared.state.Cell.{Cell}
use Rattle.xm_parts.proofs.CellsAt.{cell_read, prim_read, prim_set}
use Rattle.xm_parts.proofs.Placing.{each_more, plain_here, rest_more, room_here}
use Rattle.xm_parts.specs.Changing.{HasRoomFor, IsApplied, IsPlainChange, place_of}
use Rattle.xm_parts.specs.Rows.{cell_in}
use Rattle.xm_parts.specs.declared.row.PrimCell.{PrimCell}
use Rattle.xm_parts.proofs.applying.apply_cells.Goals as goal

pub apply_to-requires-clause-plain : goal.apply_to-requires-clause-plain
apply_to-requires-clause-plain c =
    let it = c.change-item.result in let cells = c.loop-change.cells in let j = c.loop-change.change-index in
    let at = slice_get_read c.args.changes.now (length c.args.changes.now) j it refl c.loop-change-test.true c.change-item.is in
    let inside : c.place.result < length cells = (let b = c.requires.below j it at in let long = c.loop-change.auto.cells in let p = c.place.ensures in omega arith) in
    let here : (get_or cells c.place.result c.index-cells-place.result).cell ≡ cell_in cells (place_of it) = cell_read cells c.place.result c.index-cells-place.result inside ∙ ap (cell_in cells) c.place.ensures in
    subst (λ (x : Cell). IsPlainChange it (content_of x)) (sym here) (plain_here c.args.cells.now c.args.changes.now c.requires cells j it at c.loop-change.invariant.each c.loop-change.invariant.rest)

pub apply_to-requires-clause-room : goal.apply_to-requires-clause-room
apply_to-requires-clause-room c =
    let it = c.change-item.result in let cells = c.loop-change.cells in let j = c.loop-change.change-index in
    let at = slice_get_read c.args.changes.now (length c.args.changes.now) j it refl c.loop-change-test.true c.change-item.is in
    let inside : c.place.result < length cells = (let b = c.requires.below j it at in let long = c.loop-change.auto.cells in let p = c.place.ensures in omega arith) in
    let here : (get_or cells c.place.result c.index-cells-place.result).cell ≡ cell_in cells (place_of it) = cell_read cells c.place.result c.index-cells-place.result inside ∙ ap (cell_in cells) c.place.ensures in
    subst (λ (x : Cell). HasRoomFor it x) (sym here) (room_here c.args.cells.now c.args.changes.now c.requires cells j it at c.loop-change.invariant.each c.loop-change.invariant.rest)

pub loop-change-preserved : goal.loop-change-preserved
loop-change-preserved c =
    let it = c.change-item.result in let cells = c.loop-change.cells in let j = c.loop-change.change-index in let old = c.args.cells.now in
    let at = slice_get_read c.args.changes.now (length c.args.changes.now) j it refl c.loop-change-test.true c.change-item.is in
    let inside : c.place.result < length cells = (let b = c.requires.below j it at in let long = c.loop-change.auto.cells in let p = c.place.ensures in omega arith) in
    let within : place_of it < length cells = (let p = c.place.ensures in omega arith) in
    let here : (get_or cells c.place.result c.index-cells-place.result).cell ≡ cell_in cells (place_of it) = cell_read cells c.place.result c.index-cells-place.result inside ∙ ap (cell_in cells) c.place.ensures in
    let x : PrimCell = record { prim = (get_or cells c.place.result c.index-cells-place.result).prim; cell = c.apply_to.new.cell } in
    let done : IsApplied it (cell_in cells (place_of it)) x.cell = subst (λ (y : Cell). IsApplied it y c.apply_to.new.cell) here c.apply_to.ensures in
    record {
      prims = λ k. prim_set cells c.place.result k x (prim_read cells c.place.result c.index-cells-place.result inside) ∙ c.loop-change.invariant.prims k;
      each = λ k d less there. subst (λ (q : ℕ). IsApplied d (cell_in old (place_of d)) (cell_in (set cells q x) (place_of d))) (sym c.place.ensures)
          (each_more old c.args.changes.now c.requires cells j it at c.loop-change.invariant.each c.loop-change.invariant.rest x within done k d less there);
      rest = λ i none. subst (λ (q : ℕ). cell_in (set cells q x) i ≡ cell_in old i) (sym c.place.ensures)
          (rest_more old c.args.changes.now c.requires cells j it at c.loop-change.invariant.each c.loop-change.invariant.rest x within done i none);
    }
