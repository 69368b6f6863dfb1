-- Inner: rows over the first columns that all hold where there is nothing. No public clause cites these.
use Rattle.std.specs.Prelude.{◌≡◌, ℕ, ◌<◌, pos, All}
use Rattle.xm_rows.specs.Row.{IsRow, SparseRow}

-- the row's columns are below the number, and its constant is 0
pub record IsOver (base : ℕ) (r : SparseRow) : Type 0 where
  pub row : IsRow r
  pub within : All (λ e. e.column < base) r.entries
  pub nothing : r.constant ≡ pos 0
