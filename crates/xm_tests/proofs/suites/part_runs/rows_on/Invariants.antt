use Rattle.std.proofs.Common.{◌≡◌, ℕ, length, Some, slice_get}
use Rattle.xm_model.specs.Frame.{IsFrame}
use Rattle.xm_model.specs.Next.{next}
use Rattle.xm_model.specs.Signals.{Signals}
use Rattle.xm_model.specs.Views.{choice_at}
use Rattle.xm_parts.specs.Kept.{label_at}
use Rattle.xm_parts.specs.Projection.{projection}
use Rattle.xm_parts.specs.Rows.{IsRoomyRow, row_of}
use Rattle.xm_parts.specs.declared.row.PartRow.{PartRow}
use Rattle.xm_tests.specs.Inner.Stepped.{AreRows}
use Rattle.xm_tests.proofs.suites.part_runs.rows_on.Given as goal

abbrev pub invariant-loop-p : goal.invariant-loop-p
invariant-loop-p l = record {
  whole : length l.made.items ≡ l.p;
  are : (h : AreRows l.design.net (label_at l.parts.labels) l.parts.count l.rows) (φ : Signals) → IsFrame l.design.net (next l.design.net h.state h.frame) (choice_at l.design.net.prims l.choices) φ →
      (k : ℕ) (row : PartRow) → slice_get l.made.items k ≡ Some row → row_of row ≡ projection l.design.net (label_at l.parts.labels) k (next l.design.net h.state h.frame) φ;
  roomy : (k : ℕ) (row : PartRow) → slice_get l.made.items k ≡ Some row → IsRoomyRow l.design.net (label_at l.parts.labels) k row;
}
