use Rattle.std.proofs.Common.{◌≡◌, ℕ}
use Rattle.xm_board.specs.Inner.Logging.{IsRoomyLog}
use Rattle.xm_parts.specs.Projection.{Row}
use Rattle.xm_parts.specs.Rows.{IsRoomyRow, row_of}
use Rattle.xm_board.proofs.row_log.RowLog.newest.Given as goal

abbrev pub invariant-loop-change : goal.invariant-loop-change
invariant-loop-change l =
    (label : ℕ → ℕ) (p : ℕ) (rows : ℕ → Row) → IsRoomyLog l.design.net label p rows l.self →
    (row_of l.row ≡ rows l.change-index) × IsRoomyRow l.design.net label p l.row
