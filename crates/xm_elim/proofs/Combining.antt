-- What a cancelled row has in a column.
use Rattle.std.proofs.Common.{◌≡◌, ◌≢◌, ℕ, zero, suc, ◌<◌, ◌⊎◌, inl, inr, refl, ◌∙◌, ap, arith, pos, negsuc, ℤ, ◌*ℤ◌}
use Rattle.std.proofs.lemmas.Int.{ints}
use Rattle.std.proofs.Math.IntN.{*ℤ-zero}
use Rattle.xm_rows.specs.Lemmas.Integers.{zero_factor}
use Rattle.xm_rows.specs.Lemmas.Factors.{factors_cancel}
use Rattle.xm_rows.specs.Combination.{IsCancelled}
use Rattle.xm_rows.specs.Points.{FirstFactorIsPositive}
use Rattle.xm_rows.specs.Row.{SparseRow, coefficient}

pub zero_or_other : (z : ℤ) → (z ≡ pos 0) ⊎ (z ≢ pos 0)
zero_or_other (pos zero) = inl refl
zero_or_other (pos (suc n)) = inr (λ h. absurd (omega (arith, ints)))
zero_or_other (negsuc n) = inr (λ h. absurd (omega (arith, ints)))

divisor_nonzero : (d : ℕ) → 0 < d → pos d ≢ pos 0
divisor_nonzero d some e = absurd (omega (arith, ints))

-- a column that neither row has
pub zero_both : (r s : SparseRow) (column : ℕ) (t : SparseRow) (k : ℕ) → IsCancelled r s column t →
    coefficient r.entries k ≡ pos 0 → coefficient s.entries k ≡ pos 0 → coefficient t.entries k ≡ pos 0
zero_both r s column t k c on_r on_s =
    let at = c.combination.entries k in
    let u = *ℤ-zero c.u in
    let v = *ℤ-zero c.v in
    let first = ap (λ (z : ℤ). c.u *ℤ z) on_r ∙ u in
    let second = ap (λ (z : ℤ). c.v *ℤ z) on_s ∙ v in
    zero_factor (pos c.combination.divisor) (coefficient t.entries k) (divisor_nonzero c.combination.divisor c.combination.positive) (omega (arith, ints))

-- a column that the pivot does not have stays
pub nonzero_kept : FirstFactorIsPositive → (r s : SparseRow) (column : ℕ) (t : SparseRow) (k : ℕ) → IsCancelled r s column t →
    coefficient s.entries column ≢ pos 0 → coefficient s.entries k ≡ pos 0 → coefficient r.entries k ≢ pos 0 → coefficient t.entries k ≢ pos 0
nonzero_kept first r s column t k c at_column on_s on_r gone =
    let at = c.combination.entries k in
    let none = ap (λ (z : ℤ). pos c.combination.divisor *ℤ z) gone ∙ *ℤ-zero (pos c.combination.divisor) in
    let second = ap (λ (z : ℤ). c.v *ℤ z) on_s ∙ *ℤ-zero c.v in
    let u = first (coefficient r.entries column) (coefficient s.entries column) c.u c.v at_column c.factors in
    on_r (zero_factor c.u (coefficient r.entries k) (λ e. absurd (omega (arith, ints))) (omega (arith, ints)))

-- the column itself is gone
pub gone : (r s : SparseRow) (column : ℕ) (t : SparseRow) → coefficient s.entries column ≢ pos 0 → IsCancelled r s column t → coefficient t.entries column ≡ pos 0
gone r s column t nonzero c =
    zero_factor (pos c.combination.divisor) (coefficient t.entries column) (divisor_nonzero c.combination.divisor c.combination.positive)
    (c.combination.entries column ∙ factors_cancel (coefficient r.entries column) (coefficient s.entries column) c.u c.v nonzero c.factors)
