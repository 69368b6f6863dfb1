-- The places of rows that stand noted for each column.
use Rattle.std.specs.Prelude.{ℕ, ◌<◌, ◌≡◌, List, [], length, map, slice_index_or, All}
use Rattle.xm_model.specs.ListView.{ListView}
use Rattle.xm_model.specs.Membership.{IsIn}
use Rattle.xm_rows.specs.declared.row.Entry.{Entry}

-- the lists without their rooms
abbrev pub columns_of : List (ListView ℕ) → List (List ℕ)
columns_of lists = map (λ l. l.items) lists

-- the places that are noted for column k
abbrev pub noted : List (List ℕ) → ℕ → List ℕ
noted columns k = slice_index_or columns k []

-- the places are noted for each column of an entry, and what was noted stays
pub record AreSpread (places : List ℕ) (entries : List Entry) (columns next : List (List ℕ)) : Type 0 where
  pub whole : length next ≡ length columns
  pub kept : (k j : ℕ) → IsIn (noted columns k) j → IsIn (noted next k) j
  pub spread : All (λ e. e.column < length columns → (j : ℕ) → IsIn places j → IsIn (noted next e.column) j) entries
  pub bounded : (n : ℕ) → All (λ j. j < n) places → ((k : ℕ) → All (λ j. j < n) (noted columns k)) →
      (k : ℕ) → All (λ j. j < n) (noted next k)
