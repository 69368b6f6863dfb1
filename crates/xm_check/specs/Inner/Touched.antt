-- Which columns of a sum may differ from 0.
use Rattle.std.specs.Prelude.{◌≡◌, ℕ, ◌<◌, List, [], ◌∷◌, ◌⊎◌, Bool, true, ◌&&◌, All, length, ℤ, pos, slice_set, slice_index_or}
use Rattle.std.specs.Ordering.{int_eq}
use Rattle.xm_model.specs.Membership.{IsIn}

abbrev pub number_at : List ℤ → ℕ → ℤ
number_at columns k = slice_index_or columns k (pos 0)

-- the touched are columns, and each other column is 0
pub record AreTouched (touched : List ℕ) (columns : List ℤ) : Type 0 where
  pub within : All (λ k. k < length columns) touched
  pub rest : (k : ℕ) → (number_at columns k ≡ pos 0) ⊎ IsIn touched k

-- each of these columns is 0
abbrev pub zero_at : List ℤ → List ℕ → Bool
zero_at columns [] = true
zero_at columns (k ∷ ks) = int_eq (number_at columns k) (pos 0) && zero_at columns ks

-- with 0 in these columns
abbrev pub cleared : List ℕ → List ℤ → List ℤ
cleared [] columns = columns
cleared (k ∷ ks) columns = cleared ks (slice_set columns k (pos 0))
