-- What a take changes in what a board keeps.
use Rattle.std.specs.Prelude.{◌≡◌, ℕ, ◌+◌, ◌<◌, ◌≤◌, List, Some, length, slice_get, slice_set as set}
use Rattle.xm_board.specs.declared.row_log.RowLog.{RowLog}
use Rattle.xm_model.specs.ListView.{ListView}
use Rattle.xm_trace.specs.declared.trace.Move.{Move}

-- part p's rows are as they were; there may be more room
pub record AreSameRows (old : List RowLog) (p : ℕ) (new : List RowLog) : Type 0 where
  pub was : RowLog
  pub log : RowLog
  pub at : slice_get old p ≡ Some was
  pub base : log.base ≡ was.base
  pub changes : log.changes.items ≡ was.changes.items
  pub room : was.changes.room ≤ log.changes.room
  pub new_is : new ≡ set old p log

-- part p has room for one row more
abbrev pub HasRowRoom : ℕ → List RowLog → Type 0
HasRowRoom p logs = (log : RowLog) → slice_get logs p ≡ Some log → length log.changes.items < log.changes.room

-- part p's moves are as they were; there may be more room
pub record AreSameMoves (old : List (ListView Move)) (p : ℕ) (new : List (ListView Move)) : Type 0 where
  pub was : ListView Move
  pub moves : ListView Move
  pub at : slice_get old p ≡ Some was
  pub items : moves.items ≡ was.items
  pub room : was.room ≤ moves.room
  pub new_is : new ≡ set old p moves

-- part p has room for so many moves more
abbrev pub HasMoveRoom : ℕ → ℕ → List (ListView Move) → Type 0
HasMoveRoom p more moves = (ms : ListView Move) → slice_get moves p ≡ Some ms → length ms.items + more ≤ ms.room
