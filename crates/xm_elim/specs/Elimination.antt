-- The elimination of moves from flow rows, column by column, and then of packets among what is left.
-- Columns of working rows are those of moves, from 0, those of packets, and then one for each flow row: its factor.
use Rattle.std.specs.Prelude.{◌≡◌, ◌≢◌, ◌⊎◌, ℕ, zero, suc, ◌+◌, ◌-◌, ◌<◌, ◌≤◌, Bool, List, [], ◌∷◌, ◌++◌, length, slice_get, Some, cond, nat_lt, ℤ, pos, neg_ℤ, ◌*ℤ◌, ◌<ℤ◌, unsigned_abs, All}
use Rattle.std.specs.Int.{is_negative}
use Rattle.xm_flow.specs.ValidLemma.{Lemma, TestFits}
use Rattle.xm_flow.specs.declared.invariant.Part.{Part}
use Rattle.xm_rows.specs.Combination.{IsCancelled, Overflows}
use Rattle.xm_rows.specs.Divisor.{IsRowDivisor}
use Rattle.xm_rows.specs.Row.{IsRow, SparseRow, coefficient}
use Rattle.xm_rows.specs.declared.row.Entry.{Entry}
use Rattle.xm_elim.specs.Basis.{AreOver}
use Rattle.xm_elim.specs.declared.fault.ElimFault.{ElimFault}
use Rattle.xm_elim.specs.declared.fault.ElimFault.TheVariants as fault
use Rattle.xm_elim.specs.declared.work.Status.{Status}
use Rattle.xm_elim.specs.declared.work.Status.TheVariants.{Gone, Pivot, Waiting}
use Rattle.xm_elim.specs.declared.work.Working.{Working}

-- the working row of flow row number i: with 1 in the column of its own factor
abbrev pub begun : ℕ → ℕ → SparseRow → Working
begun base i r = record {
  row = record { entries = r.entries ++ record { column = base + i; value = pos 1 } ∷ []; constant = r.constant };
  status = Waiting;
}

-- those of the flow rows from number i on, whose factors' columns start at base
abbrev pub begun_from : ℕ → ℕ → List SparseRow → List Working
begun_from base i [] = []
begun_from base i (r ∷ rs) = begun base i r ∷ begun_from base (suc i) rs

-- the row has not been a pivot, and has an entry in the column
pub record IsCandidate (column : ℕ) (w : Working) : Type 0 where
  pub waits : w.status ≡ Waiting
  pub entry : coefficient w.row.entries column ≢ pos 0

-- the candidate with the fewest entries, and among equals the first
pub record IsPivot (rows : List Working) (column i : ℕ) (w : Working) : Type 0 where
  pub at : slice_get rows i ≡ Some w
  pub candidate : IsCandidate column w
  pub fewest : (j : ℕ) (v : Working) → slice_get rows j ≡ Some v → IsCandidate column v →
      length w.row.entries ≤ length v.row.entries
  pub first : (j : ℕ) (v : Working) → j < i → slice_get rows j ≡ Some v → IsCandidate column v →
      length w.row.entries < length v.row.entries

-- the row works, and has an entry in the column
pub record IsTaken (column : ℕ) (v : Working) : Type 0 where
  pub works : v.status ≢ Gone
  pub entry : coefficient v.row.entries column ≢ pos 0

-- what another row becomes: its cancel with the pivot, where it is taken
pub data Replaced (column : ℕ) (pivot : SparseRow) (v next : Working) : Type 0 where
  stays : (IsTaken column v → ⊥) → next ≡ v → Replaced column pivot v next
  cancelled : IsTaken column v → next.status ≡ v.status → IsRow next.row → IsCancelled v.row pivot column next.row →
      Replaced column pivot v next

-- what the pivot becomes
abbrev pub after : ℕ → ℕ → Status
after moves column = cond (nat_lt column moves) Gone (Pivot column)

-- the rows after a column: as they were where there is no candidate, else each replaced but for the pivot
pub data Step (moves column : ℕ) (rows next : List Working) : Type 0 where
  passed : ((j : ℕ) (v : Working) → slice_get rows j ≡ Some v → IsCandidate column v → ⊥) → next ≡ rows →
      Step moves column rows next
  pivoted : (i : ℕ) (w : Working) → IsPivot rows column i w → length next ≡ length rows →
      slice_get next i ≡ Some (record { row = w.row; status = after moves column }) →
      ((j : ℕ) (v n : Working) → j ≢ i → slice_get rows j ≡ Some v → slice_get next j ≡ Some n →
      Replaced column w.row v n) →
      Step moves column rows next

-- the rows after the first so many columns
pub data Reaches (moves : ℕ) (start : List Working) : ℕ → List Working → Type 0 where
  begin : Reaches moves start zero start
  more : {column : ℕ} {rows next : List Working} → Reaches moves start column rows → Step moves column rows next →
      Reaches moves start (suc column) next

-- the pivots of the first so many columns of packets, in the order of their columns
pub data Pivots (moves : ℕ) (rows : List Working) : ℕ → List SparseRow → Type 0 where
  none : Pivots moves rows zero []
  without : {n : ℕ} {ps : List SparseRow} → Pivots moves rows n ps → ((i : ℕ) (w : Working) →
      slice_get rows i ≡ Some w → w.status ≢ Pivot (moves + n)) → Pivots moves rows (suc n) ps
  with_one : {n : ℕ} {ps : List SparseRow} → Pivots moves rows n ps → (i : ℕ) (r : SparseRow) →
      slice_get rows i ≡ Some (record { row = r; status = Pivot (moves + n) }) →
      Pivots moves rows (suc n) (ps ++ r ∷ [])

-- the factors of a working row, with their signs changed or not
abbrev pub parts_of : ℕ → Bool → List Entry → List Part
parts_of base turned [] = []
parts_of base turned (e ∷ es) =
    cond (nat_lt e.column base) (parts_of base turned es)
    (record { flow = e.column - base; factor = cond turned (neg_ℤ e.value) e.value } ∷ parts_of base turned es)

-- the lemma is the pivot, parted from its factors and made primitive
pub record IsParted (moves counts : ℕ) (pivot : SparseRow) (it : Lemma) : Type 0 where
  pub factor : ℤ
  pub nonzero : factor ≢ pos 0
  pub scale : it.scale ≡ pos (unsigned_abs factor)
  pub parts : it.parts ≡ parts_of (moves + counts) (is_negative factor) pivot.entries
  pub row : IsRow it.row
  pub within : All (λ e. e.column < counts) it.row.entries
  pub entries : (k : ℕ) → k < counts → factor *ℤ coefficient it.row.entries k ≡ coefficient pivot.entries (moves + k)
  pub constant : factor *ℤ it.row.constant ≡ pivot.constant
  pub leads : (e : Entry) (es : List Entry) → it.row.entries ≡ e ∷ es → pos 0 <ℤ e.value
  pub lowest : IsRowDivisor 1 it.row

-- the lemmas are what the elimination leaves
pub record Eliminates (moves counts : ℕ) (flow : List SparseRow) (lemmas : List Lemma) : Type 0 where
  pub rows : List Working
  pub reaches : Reaches moves (begun_from (moves + counts) 0 flow) (moves + counts) rows
  pub pivots : List SparseRow
  pub taken : Pivots moves rows counts pivots
  pub whole : length lemmas ≡ length pivots
  pub parted : (i : ℕ) (r : SparseRow) (it : Lemma) → slice_get pivots i ≡ Some r → slice_get lemmas i ≡ Some it →
      IsParted moves counts r it

-- what is said of an overflow; want of memory says nothing
abbrev pub OnOverflow : (SparseRow → SparseRow → ℕ → Type 0) → ElimFault → Type 0
OnOverflow P (fault.Overflow r s column) = P r s column
OnOverflow P fault.OutOfMemory = Unit {0}

-- at this column the first cancel that leaves 128 bits is that of r with the pivot s
pub record IsFirstOverflow (rows : List Working) (column : ℕ) (r s : SparseRow) : Type 0 where
  pub i : ℕ
  pub pivot : Working
  pub is_pivot : IsPivot rows column i pivot
  pub is_s : s ≡ pivot.row
  pub j : ℕ
  pub other : j ≢ i
  pub taken : Working
  pub at : slice_get rows j ≡ Some taken
  pub is_taken : IsTaken column taken
  pub is_r : r ≡ taken.row
  pub overflows : Overflows r s column
  pub earlier : (k : ℕ) (v : Working) → k < j → k ≢ i → slice_get rows k ≡ Some v → IsTaken column v →
      Overflows v.row s column → ⊥

-- the elimination meets it, after the columns before
pub record MeetsOverflow (moves counts : ℕ) (flow : List SparseRow) (r s : SparseRow) (column : ℕ) : Type 0 where
  pub rows : List Working
  pub reaches : Reaches moves (begun_from (moves + counts) 0 flow) column rows
  pub before_end : column < moves + counts
  pub first : IsFirstOverflow rows column r s

-- the test of a lemma leaves 128 bits, and that of none before it: it counts as a cancel of its pivot r with itself
pub record FailsTest (moves counts : ℕ) (flow : List SparseRow) (r s : SparseRow) (column : ℕ) : Type 0 where
  pub lemmas : List Lemma
  pub ends : Eliminates moves counts flow lemmas
  pub i : ℕ
  pub it : Lemma
  pub at : slice_get lemmas i ≡ Some it
  pub fails : ¬ TestFits flow it
  pub earlier : (j : ℕ) (l : Lemma) → j < i → slice_get lemmas j ≡ Some l → TestFits flow l
  pub is_r : slice_get ends.pivots i ≡ Some r
  pub is_s : s ≡ r
  pub place : ℕ
  pub pivot : slice_get ends.rows place ≡ Some (record { row = r; status = Pivot column })

-- the lemmas are what the elimination leaves, and the test of each stays within 128 bits
pub record EndsWith (moves counts : ℕ) (flow : List SparseRow) (lemmas : List Lemma) : Type 0 where
  pub eliminates : Eliminates moves counts flow lemmas
  pub tested : All (TestFits flow) lemmas

-- the elimination or the test of what it leaves leaves 128 bits
abbrev pub ElimOverflows : ℕ → ℕ → List SparseRow → SparseRow → SparseRow → ℕ → Type 0
ElimOverflows moves counts flow r s column = MeetsOverflow moves counts flow r s column
    ⊎ FailsTest moves counts flow r s column

-- an elimination that has a good end meets no overflow
abbrev pub ExclusiveEnds : Type 0
ExclusiveEnds =
    (moves counts : ℕ) (flow : List SparseRow) (lemmas : List Lemma) (r s : SparseRow) (column : ℕ) →
    AreOver (moves + counts) flow →
    EndsWith moves counts flow lemmas → ElimOverflows moves counts flow r s column → ⊥
