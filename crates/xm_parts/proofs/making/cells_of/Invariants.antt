use Rattle.std.proofs.Common.{◌≡◌, ℕ, length, Some, slice_get}
use Rattle.xm_model.specs.Views.{content_at}
use Rattle.xm_parts.specs.Inner.Copied.{IsCellWith}
use Rattle.xm_parts.specs.declared.row.PrimCell.{PrimCell}
use Rattle.xm_parts.proofs.making.cells_of.Given as goal

abbrev pub invariant-loop-k : goal.invariant-loop-k
invariant-loop-k l = record {
  whole : length l.made.items ≡ l.k;
  each : (k : ℕ) (x : PrimCell) → slice_get l.made.items k ≡ Some x → (i : ℕ) → slice_get l.prims k ≡ Some i → IsCellWith l.design.net i (content_at l.cells i) x;
}
