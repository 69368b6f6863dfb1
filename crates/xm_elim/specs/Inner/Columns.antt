-- Inner: the places of rows that stand noted for each column, and the pivot's among them. No public clause cites these.
use Rattle.std.specs.Prelude.{◌≡◌, ◌≢◌, ℕ, ◌<◌, List, length, slice_get, Some, pos, All}
use Rattle.xm_colours.specs.Family.{Rises}
use Rattle.xm_model.specs.Membership.{IsIn}
use Rattle.xm_rows.specs.Columns.{noted}
use Rattle.xm_rows.specs.Row.{coefficient}
use Rattle.xm_elim.specs.Elimination.{IsTaken}
use Rattle.xm_elim.specs.declared.work.Working.{Working}

-- each row is noted for each of the columns in which it has an entry
pub record Covers (rows : List Working) (columns : List (List ℕ)) : Type 0 where
  pub covers : (j : ℕ) (w : Working) (k : ℕ) → slice_get rows j ≡ Some w → k < length columns →
      coefficient w.row.entries k ≢ pos 0 → IsIn (noted columns k) j
  pub bounded : (k : ℕ) → All (λ j. j < length rows) (noted columns k)

-- places of rows, among them those of the given ones that are taken
pub record AreTakenOf (rows : List Working) (column : ℕ) (given places : List ℕ) : Type 0 where
  pub within : All (λ p. p < length rows) places
  pub complete : (j : ℕ) (w : Working) → IsIn given j → slice_get rows j ≡ Some w → IsTaken column w → IsIn places j

-- the given places in rising order, each once
pub record IsRisingOf (given places : List ℕ) : Type 0 where
  pub rise : Rises places
  pub within : (n : ℕ) → All (λ p. p < n) given → All (λ p. p < n) places
  pub complete : (j : ℕ) → IsIn given j → IsIn places j
