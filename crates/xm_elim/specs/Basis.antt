-- A reduced basis of all that flow rows say of packets alone.
use Rattle.std.specs.Prelude.{◌≡◌, ◌≢◌, ℕ, ◌+◌, ◌<◌, List, [], ◌∷◌, length, map, slice_get, Some, ℤ, pos, ◌*ℤ◌, ◌<ℤ◌, All}
use Rattle.xm_flow.specs.ValidLemma.{IsValid, Lemma}
use Rattle.xm_rows.specs.Divisor.{IsRowDivisor}
use Rattle.xm_rows.specs.Points.{Meets}
use Rattle.xm_rows.specs.Row.{IsRow, SparseRow, coefficient}
use Rattle.xm_rows.specs.declared.row.Entry.{Entry}

-- the first entry lies in the column, and is positive
abbrev pub LeadsAt : ℕ → List Entry → Type 0
LeadsAt column [] = ⊥
LeadsAt column (e ∷ es) = (e.column ≡ column) × (pos 0 <ℤ e.value)

-- leading columns rise and are 0 in all other rows, leading entries are positive, and each row is in its lowest terms
pub record IsReducedList (rows : List SparseRow) : Type 0 where
  pub lead : ℕ → ℕ
  pub leads : (i : ℕ) (r : SparseRow) → slice_get rows i ≡ Some r → LeadsAt (lead i) r.entries
  pub rise : (i j : ℕ) → i < j → j < length rows → lead i < lead j
  pub alone : (i j : ℕ) (r : SparseRow) → i < length rows → j ≢ i → slice_get rows j ≡ Some r →
      coefficient r.entries (lead i) ≡ pos 0
  pub lowest : (i : ℕ) (r : SparseRow) → slice_get rows i ≡ Some r → IsRowDivisor 1 r

-- moves with which the packets n, taken a positive number of times, solve each flow row with its constant as often
pub record Solution (moves counts : ℕ) (flow : List SparseRow) (n : ℕ → ℤ) : Type 0 where
  pub times : ℕ
  pub positive : 0 < times
  pub x : ℕ → ℤ
  pub packets : (k : ℕ) → k < counts → x (moves + k) ≡ pos times *ℤ n k
  pub solves : All (λ r. Meets r (pos times) x) flow

-- whatever packets meet the rows, there are moves for them
abbrev pub Spans : ℕ → ℕ → List SparseRow → List SparseRow → Type 0
Spans moves counts flow rows = (n : ℕ → ℤ) → All (λ r. Meets r (pos 1) n) rows → Solution moves counts flow n

-- lemmas over so many pairs and then so many queue pairs, reduced, from which nothing is missing
pub record IsReducedBasis (moves counts : ℕ) (flow : List SparseRow) (lemmas : List Lemma) : Type 0 where
  pub valid : All (IsValid moves counts flow) lemmas
  pub reduced : IsReducedList (map (λ (it : Lemma). it.row) lemmas)
  pub span : Spans moves counts flow (map (λ (it : Lemma). it.row) lemmas)

-- rows over the first so many columns
pub record AreOver (base : ℕ) (flow : List SparseRow) : Type 0 where
  pub rows : All IsRow flow
  pub within : All (λ r. All (λ e. e.column < base) r.entries) flow

-- some point meets all rows
pub record IsConsistent (flow : List SparseRow) : Type 0 where
  pub x : ℕ → ℤ
  pub meets : All (λ r. Meets r (pos 1) x) flow
