-- Sums of rows, each taken a number of times.
use Rattle.std.proofs.Common.{◌≡◌, ◌≢◌, ℕ, zero, suc, ◌<◌, List, [], ◌∷◌, length, refl, sym, ◌∙◌, ap, ap₂, arith, pos}
use Rattle.std.proofs.Common.{neg_ℤ, ℤ, ◌+ℤ◌, ◌-ℤ◌, ◌*ℤ◌}
use Rattle.std.proofs.lemmas.Int.{ints}
use Rattle.std.proofs.Math.IntN.{*ℤ-zero, zero-*ℤ}
use Rattle.xm_rows.specs.Row.{SparseRow, coefficient}
use Rattle.xm_rows.specs.Combination.{IsCombination}
use Rattle.xm_rows.specs.Lemmas.Integers.{distrib, distrib_right, assoc, negated, one_times, one_factor}
use Rattle.xm_rows.specs.Lemmas.Meeting.{positive_nonzero}
use Rattle.xm_lp.specs.Start.{row_at, total, in_column, constant_of}

-- the sum over rows of y times what f reads from the row
abbrev pub combined : (SparseRow → ℤ) → (ℕ → ℤ) → List SparseRow → ℤ
combined f y [] = pos 0
combined f y (r ∷ rs) = (y 0 *ℤ f r) +ℤ combined f (λ i. y (suc i)) rs

pub combined_same : (f : SparseRow → ℤ) (y z : ℕ → ℤ) (rs : List SparseRow) → ((i : ℕ) → y i ≡ z i) → combined f y rs ≡
    combined f z rs
combined_same f y z [] h = refl
combined_same f y z (r ∷ rs) h = ap₂ ◌+ℤ◌ (ap (λ (n : ℤ). n *ℤ f r) (h 0)) (combined_same f (λ i. y (suc i)) (λ i. z (suc i)) rs (λ i. h (suc i)))

pub combined_less : (f : SparseRow → ℤ) (u v : ℤ) (y z : ℕ → ℤ) (rs : List SparseRow) →
    combined f (λ i. (u *ℤ y i) -ℤ (v *ℤ z i)) rs ≡ (u *ℤ combined f y rs) -ℤ (v *ℤ combined f z rs)
combined_less f u v y z [] = let a = *ℤ-zero u in let b = *ℤ-zero v in omega (arith, ints)
combined_less f u v y z (r ∷ rs) =
    let rest = combined_less f u v (λ i. y (suc i)) (λ i. z (suc i)) rs in
    let here = distrib_right (u *ℤ y 0) (neg_ℤ (v *ℤ z 0)) (f r) in
    let turned = negated (v *ℤ z 0) (f r) in
    let first = assoc u (y 0) (f r) in
    let second = assoc v (z 0) (f r) in
    let left = distrib u (y 0 *ℤ f r) (combined f (λ i. y (suc i)) rs) in
    let right = distrib v (z 0 *ℤ f r) (combined f (λ i. z (suc i)) rs) in
    omega (arith, ints)

pub combined_scaled : (f : SparseRow → ℤ) (d : ℤ) (y : ℕ → ℤ) (rs : List SparseRow) → combined f (λ i. d *ℤ y i) rs ≡
    d *ℤ combined f y rs
combined_scaled f d y [] = sym (*ℤ-zero d)
combined_scaled f d y (r ∷ rs) =
    let rest = combined_scaled f d (λ i. y (suc i)) rs in
    let here = assoc d (y 0) (f r) in
    let both = distrib d (y 0 *ℤ f r) (combined f (λ i. y (suc i)) rs) in
    omega (arith, ints)

pub combined_none : (f : SparseRow → ℤ) (y : ℕ → ℤ) (rs : List SparseRow) → ((i : ℕ) → i < length rs → y i ≡ pos 0) →
    combined f y rs ≡ pos 0
combined_none f y [] h = refl
combined_none f y (r ∷ rs) h =
    let rest = combined_none f (λ i. y (suc i)) rs (λ i lt. h (suc i) (omega arith)) in
    let here = ap (λ (n : ℤ). n *ℤ f r) (h 0 (omega arith)) ∙ zero-*ℤ (f r) in
    omega (arith, ints)

-- one row alone
pub combined_one : (f : SparseRow → ℤ) (y : ℕ → ℤ) (rs : List SparseRow) (i : ℕ) → i < length rs → y i ≡ pos 1 →
    ((h : ℕ) → h < length rs → h ≢ i → y h ≡ pos 0) → combined f y rs ≡ f (row_at rs i)
combined_one f y [] i lt one others = absurd (omega arith)
combined_one f y (r ∷ rs) zero lt one others =
    let rest = combined_none f (λ i. y (suc i)) rs (λ i below. others (suc i) (omega arith) (λ e. absurd (omega arith))) in
    let here = ap (λ (n : ℤ). n *ℤ f r) one ∙ one_times (f r) in
    omega (arith, ints)
combined_one f y (r ∷ rs) (suc i) lt one others =
    let rest = combined_one f (λ i. y (suc i)) rs i (omega arith) one (λ h below other. others (suc h) (omega arith) (λ e. other (omega arith))) in
    let here = ap (λ (n : ℤ). n *ℤ f r) (others 0 (omega arith) (λ e. absurd (omega arith))) ∙ zero-*ℤ (f r) in
    omega (arith, ints)

-- c times all rows, less y times each
pub combined_rest : (f : SparseRow → ℤ) (c : ℤ) (y : ℕ → ℤ) (rs : List SparseRow) →
    combined f (λ i. c -ℤ y i) rs ≡ (c *ℤ total f rs) -ℤ combined f y rs
combined_rest f c y [] = let a = *ℤ-zero c in omega (arith, ints)
combined_rest f c y (r ∷ rs) =
    let rest = combined_rest f c (λ i. y (suc i)) rs in
    let here = distrib_right c (neg_ℤ (y 0)) (f r) in
    let turned = negated (y 0) (f r) in
    let both = distrib c (f r) (total f rs) in
    omega (arith, ints)

-- the row is the sum of the first rows, each taken as often as the row's entry in that one's own column says
pub record IsSum (rows : List SparseRow) (own : ℕ → ℕ) (r : SparseRow) : Type 0 where
  pub entries : (k : ℕ) → coefficient r.entries k ≡ combined (in_column k) (λ i. coefficient r.entries (own i)) rows
  pub constant : r.constant ≡ combined constant_of (λ i. coefficient r.entries (own i)) rows

-- what f reads from t, where it reads the combination of r and s
sum_by : (rows : List SparseRow) (f : SparseRow → ℤ) (d u v a b c : ℤ) (x y z : ℕ → ℤ) → d ≢ pos 0 → d *ℤ c ≡
    (u *ℤ a) -ℤ (v *ℤ b) →
    ((i : ℕ) → d *ℤ z i ≡ (u *ℤ x i) -ℤ (v *ℤ y i)) → a ≡ combined f x rows → b ≡ combined f y rows → c ≡
    combined f z rows
sum_by rows f d u v a b c x y z some here own is_a is_b =
    one_factor d c (combined f z rows) some
    (here
    ∙ ap₂ ◌-ℤ◌ (ap (λ (n : ℤ). u *ℤ n) is_a) (ap (λ (n : ℤ). v *ℤ n) is_b)
    ∙ sym (combined_less f u v x y rows)
    ∙ combined_same f (λ i. (u *ℤ x i) -ℤ (v *ℤ y i)) (λ i. d *ℤ z i) rows (λ i. sym (own i))
    ∙ combined_scaled f d z rows)

-- a combination of sums is a sum
pub sum_combined : (rows : List SparseRow) (own : ℕ → ℕ) (r s t : SparseRow) (u v : ℤ) → IsCombination r s u v t →
    IsSum rows own r → IsSum rows own s → IsSum rows own t
sum_combined rows own r s t u v c on_r on_s =
    let d = pos c.divisor in
    let some = positive_nonzero c.divisor c.positive in
    let at = λ (q : SparseRow) (i : ℕ). coefficient q.entries (own i) in
    record {
      entries = λ k. sum_by rows (in_column k) d u v (coefficient r.entries k) (coefficient s.entries k) (coefficient t.entries k) (at r) (at s) (at t) some
          (c.entries k) (λ i. c.entries (own i)) (on_r.entries k) (on_s.entries k);
      constant = sum_by rows constant_of d u v r.constant s.constant t.constant (at r) (at s) (at t) some
          c.constant (λ i. c.entries (own i)) on_r.constant on_s.constant;
    }
