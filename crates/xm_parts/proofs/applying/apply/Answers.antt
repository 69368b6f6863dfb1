use Rattle.std.proofs.Common.{◌≡◌, ℕ, List, length, subst, ◌∙◌, Some, slice_get}
use Rattle.xm_model.specs.Component.{Content, Packets}
use Rattle.xm_model.specs.Lending.{refill-full}
use Rattle.xm_parts.proofs.Applied.{can_apply, contents_after, prims_kept, roomy_kept, row_made, wires_after}
use Rattle.xm_parts.specs.Changing.{AllApply, WiresApply}
use Rattle.xm_parts.proofs.applying.apply.Goals as goal

pub apply_cells-requires : goal.apply_cells-requires
apply_cells-requires c =
    rw (c.as_slice.ensures, c.as_mut_slice.ensures.value)
    (can_apply c.args.row.now.cells.items c.requires.change.0.cells c.args.change.now.cells.items c.requires.change.1.cells c.requires.rooms)

pub apply_wires-requires : goal.apply_wires-requires
apply_wires-requires c k d at =
    let lent : c.as_mut_slice-2.result.now ≡ c.args.row.now.wires.items = c.as_mut_slice-2.ensures.value in
    rw lent (c.requires.change.1.wires.below k d (rw c.as_slice-2.ensures at at))

pub returns-clause-row : goal.returns-clause-row
returns-clause-row c new is =
    let old = c.args.row.now in let change = c.args.change.now in
    let lent : c.as_mut_slice-2.result.now ≡ old.wires.items = c.as_mut_slice-2.ensures.value in
    let cells : AllApply old.cells.items c.apply_cells.new.cells change.cells.items = rw (c.as_mut_slice.ensures.value, c.as_slice.ensures) at c.apply_cells.ensures in
    let wires : WiresApply old.wires.items c.apply_wires.new.wires change.wires.items = rw (lent, c.as_slice-2.ensures) at c.apply_wires.ensures in
    rw (refill-full (length old.cells.items) old.cells.items c.apply_cells.new.cells cells.whole, refill-full (length old.wires.items) old.wires.items c.apply_wires.new.wires wires.whole)
    (row_made c.apply_cells.new.cells c.apply_wires.new.wires old.cells.room old.wires.room new
    (contents_after old.cells.items c.apply_cells.new.cells change.cells.items new.cells is.whole_cells is.cells cells)
    (wires_after old.wires.items c.apply_wires.new.wires new.wires change.wires.items is.whole_wires is.wires wires))

pub returns-clause-roomy : goal.returns-clause-roomy
returns-clause-roomy c net label p new roomy is few =
    let old = c.args.row.now in let change = c.args.change.now in
    let lent : c.as_mut_slice-2.result.now ≡ old.wires.items = c.as_mut_slice-2.ensures.value in
    let cells : AllApply old.cells.items c.apply_cells.new.cells change.cells.items = rw (c.as_mut_slice.ensures.value, c.as_slice.ensures) at c.apply_cells.ensures in
    let wires : WiresApply old.wires.items c.apply_wires.new.wires change.wires.items = rw (lent, c.as_slice-2.ensures) at c.apply_wires.ensures in
    let contents = contents_after old.cells.items c.apply_cells.new.cells change.cells.items new.cells is.whole_cells is.cells cells in
    rw (refill-full (length old.cells.items) old.cells.items c.apply_cells.new.cells cells.whole, refill-full (length old.wires.items) old.wires.items c.apply_wires.new.wires wires.whole)
    (record {
      fits = record {
        prims = prims_kept old.cells.items c.apply_cells.new.cells change.cells.items cells ∙ roomy.fits.prims;
        wires = wires.whole ∙ roomy.fits.wires;
      };
      roomy = roomy_kept net old.cells.items c.apply_cells.new.cells change.cells.items (can_apply old.cells.items new.cells change.cells.items is.cells c.requires.rooms) cells roomy.roomy
          (λ k i m ps at has. few k i m ps (subst (λ (xs : List (ℕ × Content)). slice_get xs k ≡ Some (i, Packets ps)) contents at) has);
    })
