-- Inner: how far a loop over the rows of a column has come. No public clause cites these.
use Rattle.std.specs.Prelude.{◌≡◌, ◌≢◌, ◌⊎◌, ℕ, ◌-◌, ◌<◌, ◌≤◌, List, [], ◌∷◌, length, drop, slice_get, cond, nat_lt, ◌+◌, ℤ, pos, ◌*ℤ◌, ◌<ℤ◌, Option, Some, None, All, Bool, true, false}
use Rattle.xm_colours.specs.Family.{Rises}
use Rattle.xm_model.specs.Membership.{IsIn}
use Rattle.xm_rows.specs.Row.{Fits128, IsRow, SparseRow, coefficient}
use Rattle.xm_rows.specs.Divisor.{IsRowDivisor}
use Rattle.xm_rows.specs.declared.row.Entry.{Entry}
use Rattle.xm_flow.specs.ValidLemma.{Lemma, TestFits}
use Rattle.xm_rows.specs.Combination.{IsCancelled, Overflows}
use Rattle.xm_elim.specs.Elimination.{IsCandidate, IsFirstOverflow, IsParted, IsTaken, Pivots, Replaced}
use Rattle.xm_elim.specs.declared.work.Status.TheVariants.{Pivot}
use Rattle.xm_elim.specs.declared.work.Working.{Working}

-- rising places of rows, among them that of each row that is taken
pub record ArePlaces (rows : List Working) (column : ℕ) (places : List ℕ) : Type 0 where
  pub rise : Rises places
  pub within : All (λ p. p < length rows) places
  pub complete : (j : ℕ) (w : Working) → slice_get rows j ≡ Some w → IsTaken column w → IsIn places j

-- each row but the pivot is replaced, and the pivot is as it was
pub record AreReplaced (column i : ℕ) (rows next : List Working) : Type 0 where
  pub whole : length next ≡ length rows
  pub at_pivot : slice_get next i ≡ slice_get rows i
  pub others : (w : Working) → slice_get rows i ≡ Some w → (j : ℕ) (v n : Working) → j ≢ i →
      slice_get rows j ≡ Some v → slice_get next j ≡ Some n → Replaced column w.row v n

-- what row p becomes: nothing else, where it is the pivot or is not taken
abbrev pub IsReplacement : ℕ → ℕ → ℕ → List Working → Option SparseRow → Type 0
IsReplacement column i p rows None = (v : Working) → slice_get rows p ≡ Some v → p ≢ i → IsTaken column v → ⊥
IsReplacement column i p rows (Some t) =
    (w v : Working) → slice_get rows i ≡ Some w → slice_get rows p ≡ Some v → (p ≢ i) × IsTaken column v × IsRow t
    × IsCancelled v.row w.row column t

-- row p is replaced, where it is not the pivot, and all others are as they were
pub record IsOneReplaced (column i p : ℕ) (rows next : List Working) : Type 0 where
  pub whole : length next ≡ length rows
  pub others : (j : ℕ) → j ≢ p → slice_get next j ≡ slice_get rows j
  pub at_pivot : p ≡ i → slice_get next p ≡ slice_get rows p
  pub here : p ≢ i → (w v n : Working) → slice_get rows i ≡ Some w → slice_get rows p ≡ Some v →
      slice_get next p ≡ Some n → Replaced column w.row v n

-- the cancel of r with s leaves 128 bits
pub record IsCancelRefused (r s : SparseRow) (column : ℕ) (x y : SparseRow) (c : ℕ) : Type 0 where
  pub first : x ≡ r
  pub second : y ≡ s
  pub same : c ≡ column
  pub overflows : Overflows r s column

-- the cancel of row p with the pivot leaves 128 bits
pub record IsRefused (column i p : ℕ) (rows : List Working) (r s : SparseRow) (c : ℕ) : Type 0 where
  pub same : c ≡ column
  pub other : p ≢ i
  pub pivot : Working
  pub at_pivot : slice_get rows i ≡ Some pivot
  pub is_s : s ≡ pivot.row
  pub taken : Working
  pub at : slice_get rows p ≡ Some taken
  pub is_taken : IsTaken column taken
  pub is_r : r ≡ taken.row
  pub overflows : Overflows r s column

-- and none before it does
pub record RefusedFirst (column i : ℕ) (rows : List Working) (r s : SparseRow) (c : ℕ) : Type 0 where
  pub p : ℕ
  pub refused : IsRefused column i p rows r s c
  pub earlier : (k : ℕ) (v : Working) → k < p → k ≢ i → slice_get rows k ≡ Some v → IsTaken column v →
      Overflows v.row s column → ⊥

-- after the first k places each row is as it was, or replaced
pub record AreReplacing (column i : ℕ) (places : List ℕ) (k : ℕ) (rows next : List Working) : Type 0 where
  pub whole : length next ≡ length rows
  pub at_pivot : slice_get next i ≡ slice_get rows i
  pub others : (w : Working) → slice_get rows i ≡ Some w → (j : ℕ) (v n : Working) → j ≢ i →
      slice_get rows j ≡ Some v → slice_get next j ≡ Some n →
      ((n ≡ v) × (IsTaken column v → IsIn (drop k places) j)) ⊎ (Replaced column w.row v n
      × (IsIn (drop k places) j → ⊥))

-- the best candidate among the rows at these places: the one with the fewest entries, and among equals the first
pub record IsBestAt (rows : List Working) (column : ℕ) (places : List ℕ) (b : ℕ) : Type 0 where
  pub w : Working
  pub at : slice_get rows b ≡ Some w
  pub among : IsIn places b
  pub candidate : IsCandidate column w
  pub fewest : (j : ℕ) (v : Working) → IsIn places j → slice_get rows j ≡ Some v → IsCandidate column v →
      length w.row.entries ≤ length v.row.entries
  pub first : (j : ℕ) (v : Working) → j < b → IsIn places j → slice_get rows j ≡ Some v → IsCandidate column v →
      length w.row.entries < length v.row.entries

abbrev pub IsBest : List Working → ℕ → List ℕ → Option ℕ → Type 0
IsBest rows column places None = (j : ℕ) (v : Working) → IsIn places j → slice_get rows j ≡ Some v →
    IsCandidate column v → ⊥
IsBest rows column places (Some b) = IsBestAt rows column places b

-- the place is that of a row, if there is one
abbrev pub IsPlace : ℕ → Option ℕ → Type 0
IsPlace n None = Unit {0}
IsPlace n (Some b) = b < n

-- a column's first cancel that leaves 128 bits
pub record PassRefused (column : ℕ) (rows : List Working) (r s : SparseRow) (c : ℕ) : Type 0 where
  pub same : c ≡ column
  pub first : IsFirstOverflow rows column r s

-- the row leads in column k, which is one of packets and was passed
pub record Leads (moves column k : ℕ) (r : SparseRow) : Type 0 where
  pub from : moves ≤ k
  pub below : k < column
  pub some : coefficient r.entries k ≢ pos 0
  pub before : (l : ℕ) → l < k → coefficient r.entries l ≡ pos 0

-- the entries below a column, counted from another
abbrev pub lowered : ℕ → ℕ → List Entry → List Entry
lowered from base [] = []
lowered from base (e ∷ es) = cond (nat_lt e.column base) (record {
  column = e.column - from;
  value =
      e.value;
} ∷ lowered from base es) (lowered from base es)

-- the first lemma whose test leaves 128 bits is that of the pivot at the place
pub record IsFirstFailing
    (flow : List SparseRow) (rows : List Working) (pivots : List SparseRow) (lemmas : List Lemma) (place : ℕ) :
    Type 0 where
  pub i : ℕ
  pub it : Lemma
  pub at : slice_get lemmas i ≡ Some it
  pub fails : ¬ TestFits flow it
  pub earlier : (j : ℕ) (l : Lemma) → j < i → slice_get lemmas j ≡ Some l → TestFits flow l
  pub r : SparseRow
  pub column : ℕ
  pub is_r : slice_get pivots i ≡ Some r
  pub pivot : slice_get rows place ≡ Some (record { row = r; status = Pivot column })

-- each lemma is tested; the first that leaves 128 bits is that of the pivot at this place, where there is one
abbrev pub AreTested : List SparseRow → List Working → List SparseRow → List Lemma → Option ℕ → Type 0
AreTested flow rows pivots lemmas None = All (TestFits flow) lemmas
AreTested flow rows pivots lemmas (Some place) = IsFirstFailing flow rows pivots lemmas place

-- the first place that fails, after one test more
abbrev pub first_failed : Option ℕ → Bool → ℕ → Option ℕ
first_failed (Some p) fits place = Some p
first_failed None true place = None
first_failed None false place = Some place

-- the lemmas of the pivots of the first n columns of packets, and the first that fails its test
pub record AreGathered
    (moves counts : ℕ) (flow : List SparseRow) (rows : List Working) (n : ℕ) (lemmas : List Lemma) (failed : Option ℕ) :
    Type 0 where
  pub pivots : List SparseRow
  pub taken : Pivots moves rows n pivots
  pub whole : length lemmas ≡ length pivots
  pub parted : (i : ℕ) (r : SparseRow) (it : Lemma) → slice_get pivots i ≡ Some r → slice_get lemmas i ≡ Some it →
      IsParted moves counts r it
  pub tested : AreTested flow rows pivots lemmas failed

-- the row at the place is a pivot
abbrev pub IsPivotPlace : List Working → ℕ → Type 0
IsPivotPlace rows place = (r : SparseRow) × ((column : ℕ) × (slice_get rows place ≡ Some (record {
  row = r;
  status =
      Pivot column;
})))

-- the test of this pivot's lemma is refused: its row with itself
pub record IsTestRefused (it : Working) (r s : SparseRow) (column : ℕ) : Type 0 where
  pub is_r : r ≡ it.row
  pub is_s : s ≡ it.row
  pub status : it.status ≡ Pivot column

-- and it is that of the pivot at the place
pub record IsPlaceRefused (rows : List Working) (failed : Option ℕ) (r s : SparseRow) (column : ℕ) : Type 0 where
  pub place : ℕ
  pub is : failed ≡ Some place
  pub it : Working
  pub at : slice_get rows place ≡ Some it
  pub refused : IsTestRefused it r s column

-- the row is what the pivot says of packets, over the factor, in lowest terms with a positive lead
pub record IsReducedPivot (moves counts : ℕ) (pivot new : SparseRow) (factor : ℤ) : Type 0 where
  pub fits : Fits128 factor
  pub nonzero : factor ≢ pos 0
  pub row : IsRow new
  pub within : All (λ e. e.column < counts) new.entries
  pub entries : (k : ℕ) → k < counts → factor *ℤ coefficient new.entries k ≡ coefficient pivot.entries (moves + k)
  pub constant : factor *ℤ new.constant ≡ pivot.constant
  pub leads : (e : Entry) (es : List Entry) → new.entries ≡ e ∷ es → pos 0 <ℤ e.value
  pub lowest : IsRowDivisor 1 new
