use Rattle.std.proofs.Common.{◌≡◌, ◌<◌, ℕ, length, map, Some, slice_get}
use Rattle.xm_board.specs.declared.row_log.RowLog.{RowLog}
use Rattle.xm_model.specs.Signals.{Signals}
use Rattle.xm_parts.specs.Far.{AreFarFrom}
use Rattle.xm_parts.specs.Kept.{label_at}
use Rattle.xm_parts.specs.Partition.{channels_in}
use Rattle.xm_parts.specs.Projection.{wire_of}
use Rattle.xm_board.proofs.starting.hear.Given as goal

abbrev pub invariant-loop-k : goal.invariant-loop-k
invariant-loop-k l = record {
  whole : length l.to ≡ length l.initial.to;
  heard : (j q : ℕ) (log : RowLog) (φ : Signals) → j < l.k → slice_get l.near j ≡ Some q → slice_get l.logs q ≡ Some log → log.base.wires.items ≡ map (wire_of φ) (channels_in l.design.net (label_at l.parts.labels) q) → AreFarFrom l.design.net (label_at l.parts.labels) l.p q φ l.to;
}
