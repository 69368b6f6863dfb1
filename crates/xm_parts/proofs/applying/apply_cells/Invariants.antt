use Rattle.std.proofs.Common.{◌≡◌, ◌≢◌, ◌<◌, ℕ, slice_get, Some}
use Rattle.xm_parts.specs.Changing.{IsApplied, place_of}
use Rattle.xm_parts.specs.Rows.{cell_in, prim_in}
use Rattle.xm_parts.specs.declared.changes.CellChange.{CellChange}
use Rattle.xm_parts.proofs.applying.apply_cells.Given as goal

abbrev pub invariant-loop-change : goal.invariant-loop-change
invariant-loop-change l = record {
  prims : (k : ℕ) → prim_in l.cells k ≡ prim_in l.initial.cells k;
  each : (k : ℕ) (c : CellChange) → k < l.change-index → slice_get l.changes k ≡ Some c → IsApplied c (cell_in l.initial.cells (place_of c)) (cell_in l.cells (place_of c));
  rest : (i : ℕ) → ((k : ℕ) (c : CellChange) → k < l.change-index → slice_get l.changes k ≡ Some c → place_of c ≢ i) → cell_in l.cells i ≡ cell_in l.initial.cells i;
}
