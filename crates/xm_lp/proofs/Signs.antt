-- Signs of products, and sums of numbers that are not negative.
use Rattle.std.proofs.Common.{◌≡◌, ◌≢◌, ◌⊎◌, ℕ, zero, suc, ◌*◌, ◌<◌, inl, inr, sym, subst, arith, pos, negsuc, neg_ℤ, ℤ}
use Rattle.std.proofs.Common.{◌-ℤ◌, ◌*ℤ◌, ◌<ℤ◌, ◌≤ℤ◌}
use Rattle.std.proofs.lemmas.Int.{ints}
use Rattle.std.proofs.Math.Nat.{le-mul_of_pos_right}
use Rattle.xm_rows.specs.Lemmas.Integers.{times_negated, distrib}
use Rattle.xm_rows.specs.Lemmas.Meeting.{column_sum}

pub sign_of : (a : ℤ) → (pos 0 ≤ℤ a) ⊎ (a <ℤ pos 0)
sign_of (pos n) = inl (omega (arith, ints))
sign_of (negsuc n) = inr (omega (arith, ints))

pub times_up : (a b : ℤ) → pos 0 ≤ℤ a → pos 0 ≤ℤ b → pos 0 ≤ℤ (a *ℤ b)
times_up (pos m) (pos n) p q = omega (arith, ints)
times_up (pos m) (negsuc n) p q = absurd (omega (arith, ints))
times_up (negsuc m) b p q = absurd (omega (arith, ints))

product_some : (m n : ℕ) → 0 < m → 0 < n → 0 < m * n
product_some m n p q = let bound = le-mul_of_pos_right m q in omega (arith, bound)

pub times_positive : (a b : ℤ) → pos 0 <ℤ a → pos 0 <ℤ b → pos 0 <ℤ (a *ℤ b)
times_positive (pos m) (pos n) p q =
    let some = product_some m n (omega (arith, ints)) (omega (arith, ints)) in
    omega (arith, ints)
times_positive (pos m) (negsuc n) p q = absurd (omega (arith, ints))
times_positive (negsuc m) b p q = absurd (omega (arith, ints))

pub times_down : (a b : ℤ) → pos 0 ≤ℤ a → b ≤ℤ pos 0 → (a *ℤ b) ≤ℤ pos 0
times_down a b p q =
    let up = times_up a (neg_ℤ b) p (omega (arith, ints)) in
    let turned = times_negated a b in
    omega (arith, ints)

-- a positive factor tells the sign of a product
pub factor_up : (d a : ℤ) → pos 0 <ℤ d → pos 0 ≤ℤ (d *ℤ a) → pos 0 ≤ℤ a
factor_up d a p h =
    elim (sign_of a) [
      | inl up ↦ up
      | inr down ↦
          let some = times_positive d (neg_ℤ a) p (omega (arith, ints)) in
          let turned = times_negated d a in
          absurd (omega (arith, ints))
    ]

pub factor_positive : (d a : ℤ) → pos 0 <ℤ d → pos 0 <ℤ (d *ℤ a) → pos 0 <ℤ a
factor_positive d a p h =
    elim (sign_of (neg_ℤ a)) [
      | inl down ↦
          let less = times_up d (neg_ℤ a) (omega (arith, ints)) down in
          let turned = times_negated d a in
          absurd (omega (arith, ints))
      | inr up ↦ omega (arith, ints)
    ]

pub factor_order : (d a b : ℤ) → pos 0 <ℤ d → (d *ℤ a) ≤ℤ (d *ℤ b) → a ≤ℤ b
factor_order d a b p h =
    let parted = distrib d b (neg_ℤ a) in
    let turned = times_negated d a in
    let up = factor_up d (b -ℤ a) p (omega (arith, ints)) in
    omega (arith, ints)

pub nonzero : (d : ℤ) → pos 0 <ℤ d → d ≢ pos 0
nonzero d p e = absurd (omega (arith, ints))

-- a sum of numbers that are not negative
pub sum_up : (n : ℕ) (f : ℕ → ℤ) → ((k : ℕ) → k < n → pos 0 ≤ℤ f k) → pos 0 ≤ℤ column_sum n f
sum_up zero f h = omega (arith, ints)
sum_up (suc n) f h =
    let before = sum_up n f (λ k lt. h k (omega arith)) in
    let here = h n (omega arith) in
    omega (arith, ints)

-- is 0 only where each is
pub sum_gone : (n : ℕ) (f : ℕ → ℤ) → ((k : ℕ) → k < n → pos 0 ≤ℤ f k) → column_sum n f ≤ℤ pos 0 → (k : ℕ) → k < n →
    f k ≡ pos 0
sum_gone zero f h none k lt = absurd (omega arith)
sum_gone (suc n) f h none k lt =
    let before = sum_up n f (λ i below. h i (omega arith)) in
    let here = h n (omega arith) in
    elim (last_or_below k n lt) [
      | inl is ↦ subst (λ (i : ℕ). f i ≡ pos 0) (sym is) (omega (arith, ints))
      | inr below ↦ sum_gone n f (λ i lt. h i (omega arith)) (omega (arith, ints)) k below
    ]
  where
    last_or_below : (k n : ℕ) → k < suc n → (k ≡ n) ⊎ (k < n)
    last_or_below k n h = grind arith
