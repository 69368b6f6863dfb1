-- Sums of rows within 128 bits: products and sums are taken row by row, in column order, the constant last.
use Rattle.std.specs.Prelude.{ℕ, suc, ◌^◌, List, [], ◌∷◌, Option, Some, None, Bool, true, false, ◌&&◌, cond}
use Rattle.std.specs.Prelude.{nat_lt, ℤ, pos, negsuc, ◌+ℤ◌, ◌*ℤ◌, unsigned_abs, slice_set, slice_index_or, replicate}
use Rattle.std.specs.Ordering.{int_eq}
use Rattle.xm_rows.specs.Row.{SparseRow}
use Rattle.xm_rows.specs.declared.row.Entry.{Entry}

-- what was added so far, for each column by number and for the constants
pub record Sums : Type 0 where
  pub columns : List ℤ
  pub constant : ℤ

-- nothing, in so many columns
abbrev pub no_sums : ℕ → Sums
no_sums n = record { columns = replicate n (pos 0); constant = pos 0 }

-- the absolute value is at most 2^127 - 1
abbrev pub fits128 : ℤ → Bool
fits128 z = nat_lt (unsigned_abs z) (2 ^ 127)

-- the sum and a product; none where the product or the new sum leaves 128 bits
abbrev pub plus_product : ℤ → ℤ → ℤ → Option ℤ
plus_product sum factor value =
    cond (fits128 (factor *ℤ value) && fits128 (sum +ℤ (factor *ℤ value))) (Some (sum +ℤ (factor *ℤ value))) None

-- a number for column k
abbrev pub put : List ℤ → ℕ → Option ℤ → Option (List ℤ)
put columns k None = None
put columns k (Some z) = Some (slice_set columns k z)

-- a row's entries, taken so often
abbrev pub add_entries : ℤ → List Entry → Option (List ℤ) → Option (List ℤ)
add_entries factor es None = None
add_entries factor [] (Some columns) = Some columns
add_entries factor (e ∷ es) (Some columns) =
    add_entries factor es (put columns e.column (plus_product (slice_index_or columns e.column (pos 0)) factor e.value))

abbrev pub with_constant : Option (List ℤ) → Option ℤ → Option Sums
with_constant (Some columns) (Some constant) = Some (record { columns = columns; constant = constant })
with_constant _ _ = None

-- a row, taken so often
abbrev pub add_row : ℤ → SparseRow → Sums → Option Sums
add_row factor row sums =
    with_constant (add_entries factor row.entries (Some sums.columns)) (plus_product sums.constant factor row.constant)

-- at least 0, and at least 1
abbrev pub is_natural : ℤ → Bool
is_natural (pos n) = true
is_natural (negsuc n) = false

abbrev pub is_positive : ℤ → Bool
is_positive (pos (suc n)) = true
is_positive _ = false

-- each is 0
abbrev pub all_zero : List ℤ → Bool
all_zero [] = true
all_zero (z ∷ zs) = int_eq z (pos 0) && all_zero zs
