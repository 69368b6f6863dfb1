use Rattle.std.proofs.Common.{◌≡◌, ℕ, length, Some, slice_get}
use Rattle.xm_model.specs.Views.{content_at, signals_of}
use Rattle.xm_parts.specs.Kept.{label_at}
use Rattle.xm_parts.specs.Projection.{projection}
use Rattle.xm_parts.specs.Rows.{IsRoomyRow, row_of}
use Rattle.xm_parts.specs.declared.row.PartRow.{PartRow}
use Rattle.xm_tests.proofs.suites.part_runs.rows_of.Given as goal

abbrev pub invariant-loop-p : goal.invariant-loop-p
invariant-loop-p l = record {
  whole : length l.rows.items ≡ l.p;
  are : (k : ℕ) (row : PartRow) → slice_get l.rows.items k ≡ Some row → row_of row ≡ projection l.design.net (label_at l.parts.labels) k (content_at l.state.cells.items) (signals_of l.wires.wires.items);
  roomy : (k : ℕ) (row : PartRow) → slice_get l.rows.items k ≡ Some row → IsRoomyRow l.design.net (label_at l.parts.labels) k row;
}
