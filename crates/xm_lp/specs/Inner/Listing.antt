-- The rows that stand noted for each column.
use Rattle.std.specs.Prelude.{◌≡◌, ◌≢◌, ℕ, ◌<◌, List, length, pos, All}
use Rattle.xm_model.specs.Membership.{IsIn}
use Rattle.xm_rows.specs.Columns.{noted}
use Rattle.xm_rows.specs.Row.{SparseRow, coefficient}
use Rattle.xm_rows.specs.declared.row.Entry.{Entry}
use Rattle.xm_lp.specs.Start.{row_at}

-- each row is noted for each of the columns in which it has an entry
pub record AreListed (rows : List SparseRow) (columns : List (List ℕ)) : Type 0 where
  pub listed : (h k : ℕ) → h < length rows → k < length columns → coefficient (row_at rows h).entries k ≢ pos 0 →
      IsIn (noted columns k) h
  pub bounded : (k : ℕ) → All (λ h. h < length rows) (noted columns k)

-- row number h is noted for each of these entries' columns where it has none, and what was noted stays
pub record IsNoted (h : ℕ) (row : SparseRow) (entries : List Entry) (columns next : List (List ℕ)) : Type 0 where
  pub whole : length next ≡ length columns
  pub kept : (k g : ℕ) → IsIn (noted columns k) g → IsIn (noted next k) g
  pub fresh : All (λ e. e.column < length columns → coefficient row.entries e.column ≡ pos 0 →
      IsIn (noted next e.column) h) entries
  pub bounded : (n : ℕ) → h < n → ((k : ℕ) → All (λ g. g < n) (noted columns k))
      → (k : ℕ) → All (λ g. g < n) (noted next k)

-- so is each of these rows with an entry in the column, for the entries of row i
pub record AreNoted (rows : List SparseRow) (column i : ℕ) (list : List ℕ) (columns next : List (List ℕ)) : Type 0 where
  pub whole : length next ≡ length columns
  pub kept : (k g : ℕ) → IsIn (noted columns k) g → IsIn (noted next k) g
  pub fresh : (h : ℕ) → IsIn list h → coefficient (row_at rows h).entries column ≢ pos 0 →
      All (λ e. e.column < length columns → coefficient (row_at rows h).entries e.column ≡ pos 0 →
      IsIn (noted next e.column) h) (row_at rows i).entries
  pub bounded : ((k : ℕ) → All (λ g. g < length rows) (noted columns k))
      → (k : ℕ) → All (λ g. g < length rows) (noted next k)

-- the list is what stands noted for the column, which is taken from the others
pub record AreListedBut (column : ℕ) (list : List ℕ) (rows : List SparseRow) (columns : List (List ℕ)) : Type 0 where
  pub own : (h : ℕ) → h < length rows → coefficient (row_at rows h).entries column ≢ pos 0 → IsIn list h
  pub own_bounded : All (λ h. h < length rows) list
  pub listed : (h k : ℕ) → k ≢ column → h < length rows → k < length columns →
      coefficient (row_at rows h).entries k ≢ pos 0 → IsIn (noted columns k) h
  pub bounded : (k : ℕ) → All (λ h. h < length rows) (noted columns k)
