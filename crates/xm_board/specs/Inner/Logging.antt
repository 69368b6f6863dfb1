-- Which rows a log keeps.
use Rattle.std.specs.Prelude.{◌≡◌, ◌≤◌, ℕ, suc, Some, length, slice_get}
use Rattle.xm_board.specs.declared.row_log.RowLog.{RowLog}
use Rattle.xm_model.specs.Net.{Network}
use Rattle.xm_parts.specs.Changing.{IsChange, IsWithinCapacities}
use Rattle.xm_parts.specs.Projection.{Row}
use Rattle.xm_parts.specs.Rows.{IsRoomyRow, row_of}
use Rattle.xm_parts.specs.declared.changes.Change.{Change}

-- the base is the first row, and each change makes the next
pub record IsLogOf (net : Network) (rows : ℕ → Row) (log : RowLog) : Type 0 where
  pub base : row_of log.base ≡ rows 0
  pub each : (k : ℕ) (c : Change) → slice_get log.changes.items k ≡ Some c → IsChange (rows k) (rows (suc k)) c
  pub within : (k : ℕ) → k ≤ length log.changes.items → IsWithinCapacities net (rows k)

-- and the base has room for every row of the part
pub record IsRoomyLog (net : Network) (label : ℕ → ℕ) (p : ℕ) (rows : ℕ → Row) (log : RowLog) : Type 0 where
  pub of : IsLogOf net rows log
  pub roomy : IsRoomyRow net label p log.base

-- some part's rows are in the log
pub record IsLog (log : RowLog) : Type 0 where
  pub net : Network
  pub label : ℕ → ℕ
  pub part : ℕ
  pub rows : ℕ → Row
  pub is : IsRoomyLog net label part rows log
