-- Points that meet combinations of rows.
use Rattle.std.proofs.Common.{◌≡◌, ◌≢◌, ℕ, zero, suc, ◌+◌, ◌<◌, ◌≤◌, inl, inr, List, [], ◌∷◌, cond, nat_eq, refl, sym, ◌∙◌, ap, ap₂, arith, pos, ℤ, ◌+ℤ◌, ◌-ℤ◌, ◌*ℤ◌, neg_ℤ, unsigned_abs}
use Rattle.std.proofs.lemmas.Bool.{cases_eq}
use Rattle.std.proofs.lemmas.Int.{ints}
use Rattle.std.proofs.lemmas.Nat.Gcd.{same_from_IsGcd}
use Rattle.std.proofs.Math.IntN.{zero-*ℤ, *ℤ-zero}
use Rattle.xm_rows.specs.declared.row.Entry.{Entry}
use Rattle.xm_rows.specs.Row.{SparseRow, coefficient, left_side}
use Rattle.xm_rows.specs.Combination.{IsCancelled}
use Rattle.xm_rows.specs.Divisor.{IsPrimitiveOf}
use Rattle.xm_rows.specs.Points.{KeepsPoints, GivesBackPoints, OnePairOfFactors, PrimitiveKeepsPoints}
use Rattle.xm_rows.specs.Lemmas.Integers.{distrib, distrib_right, assoc, negated, one_times, one_factor, crossed, times_difference, zero_factor}
use Rattle.xm_rows.specs.Lemmas.Entries.{own_column, other_column}
use Rattle.xm_rows.specs.Lemmas.Factors.{gcd_positive}

-- ---- a left side, summed column by column

-- the sum of f over the columns below n
abbrev pub column_sum : ℕ → (ℕ → ℤ) → ℤ
column_sum zero f = pos 0
column_sum (suc n) f = column_sum n f +ℤ f n

pub sum_same : (n : ℕ) (f g : ℕ → ℤ) → ((k : ℕ) → f k ≡ g k) → column_sum n f ≡ column_sum n g
sum_same zero f g h = refl
sum_same (suc n) f g h = ap₂ ◌+ℤ◌ (sum_same n f g h) (h n)

pub sum_none : (n : ℕ) (f : ℕ → ℤ) → ((k : ℕ) → f k ≡ pos 0) → column_sum n f ≡ pos 0
sum_none zero f h = refl
sum_none (suc n) f h = let before = sum_none n f h in let here = h n in omega (arith, ints)

sum_add : (n : ℕ) (f g : ℕ → ℤ) → column_sum n (λ k. f k +ℤ g k) ≡ column_sum n f +ℤ column_sum n g
sum_add zero f g = refl
sum_add (suc n) f g = let before = sum_add n f g in omega (arith, ints)

sum_less : (n : ℕ) (f g : ℕ → ℤ) → column_sum n (λ k. f k -ℤ g k) ≡ column_sum n f -ℤ column_sum n g
sum_less zero f g = refl
sum_less (suc n) f g = let before = sum_less n f g in omega (arith, ints)

sum_scaled : (n : ℕ) (m : ℤ) (f : ℕ → ℤ) → column_sum n (λ k. m *ℤ f k) ≡ m *ℤ column_sum n f
sum_scaled zero m f = sym (*ℤ-zero m)
sum_scaled (suc n) m f = ap (λ (z : ℤ). z +ℤ (m *ℤ f n)) (sum_scaled n m f) ∙ sym (distrib m (column_sum n f) (f n))

-- one column's value alone
abbrev term : ℕ → ℤ → (ℕ → ℤ) → ℕ → ℤ
term c value x k = cond (nat_eq c k) value (pos 0) *ℤ x k

term_here : (c k : ℕ) (value : ℤ) (x : ℕ → ℤ) → c ≡ k → term c value x k ≡ value *ℤ x c
term_here c k value x is = ap₂ ◌*ℤ◌ (own_column c k value is) (ap x (sym is))

term_elsewhere : (c k : ℕ) (value : ℤ) (x : ℕ → ℤ) → c ≢ k → term c value x k ≡ pos 0
term_elsewhere c k value x other = ap (λ (z : ℤ). z *ℤ x k) (other_column c k value other) ∙ zero-*ℤ (x k)

term_below : (n c : ℕ) (value : ℤ) (x : ℕ → ℤ) → n ≤ c → column_sum n (term c value x) ≡ pos 0
term_below zero c value x h = refl
term_below (suc n) c value x h =
    let before = term_below n c value x (omega arith) in
    let here = term_elsewhere c n value x (λ e. absurd (omega arith)) in
    omega (arith, ints)

term_sum : (n c : ℕ) (value : ℤ) (x : ℕ → ℤ) → c < n → column_sum n (term c value x) ≡ value *ℤ x c
term_sum zero c value x h = absurd (omega arith)
term_sum (suc n) c value x h =
    elim (cases_eq c n) [
      | inl is ↦
          let before = term_below n c value x (omega arith) in
          let here = term_here c n value x is in
          omega (arith, ints)
      | inr other ↦
          let before = term_sum n c value x (omega arith) in
          let here = term_elsewhere c n value x other in
          omega (arith, ints)
    ]

-- a number above all columns
abbrev above : List Entry → ℕ
above [] = 0
above (e ∷ es) = e.column + 1 + above es

pub by_columns : (es : List Entry) (n : ℕ) (x : ℕ → ℤ) → above es ≤ n → left_side es x ≡ column_sum n (λ k. coefficient es k *ℤ x k)
by_columns [] n x h = sym (sum_none n (λ k. pos 0 *ℤ x k) (λ k. zero-*ℤ (x k)))
by_columns (e ∷ es) n x h =
    let first = term_sum n e.column e.value x (omega arith) in
    let rest = by_columns es n x (omega arith) in
    ap₂ ◌+ℤ◌ (sym first) rest
    ∙ sym (sum_add n (term e.column e.value x) (λ k. coefficient es k *ℤ x k))
    ∙ sum_same n (λ k. term e.column e.value x k +ℤ (coefficient es k *ℤ x k)) (λ k. coefficient (e ∷ es) k *ℤ x k)
    (λ k. sym (distrib_right (cond (nat_eq e.column k) e.value (pos 0)) (coefficient es k) (x k)))

-- what holds of the numbers in each column holds of the left sides
pub combined_sides : (t r s : List Entry) (d u v : ℤ) (x : ℕ → ℤ) →
    ((k : ℕ) → d *ℤ coefficient t k ≡ (u *ℤ coefficient r k) -ℤ (v *ℤ coefficient s k)) →
    d *ℤ left_side t x ≡ (u *ℤ left_side r x) -ℤ (v *ℤ left_side s x)
combined_sides t r s d u v x h =
    let n = above t + above r + above s in
    let at_t = by_columns t n x (omega arith) in
    let at_r = by_columns r n x (omega arith) in
    let at_s = by_columns s n x (omega arith) in
    ap (λ (z : ℤ). d *ℤ z) at_t
    ∙ sym (sum_scaled n d (λ k. coefficient t k *ℤ x k))
    ∙ sum_same n (λ k. d *ℤ (coefficient t k *ℤ x k)) (λ k. (u *ℤ (coefficient r k *ℤ x k)) -ℤ (v *ℤ (coefficient s k *ℤ x k)))
    (λ k. at_column (coefficient t k) (coefficient r k) (coefficient s k) (x k) (h k))
    ∙ sum_less n (λ k. u *ℤ (coefficient r k *ℤ x k)) (λ k. v *ℤ (coefficient s k *ℤ x k))
    ∙ ap₂ ◌-ℤ◌ (sum_scaled n u (λ k. coefficient r k *ℤ x k) ∙ ap (λ (z : ℤ). u *ℤ z) (sym at_r))
    (sum_scaled n v (λ k. coefficient s k *ℤ x k) ∙ ap (λ (z : ℤ). v *ℤ z) (sym at_s))
  where
    at_column : (a b c y : ℤ) → d *ℤ a ≡ (u *ℤ b) -ℤ (v *ℤ c) → d *ℤ (a *ℤ y) ≡ (u *ℤ (b *ℤ y)) -ℤ (v *ℤ (c *ℤ y))
    at_column a b c y e =
        assoc d a y ∙ ap (λ (z : ℤ). z *ℤ y) e
        ∙ distrib_right (u *ℤ b) (neg_ℤ (v *ℤ c)) y
        ∙ ap₂ ◌+ℤ◌ (sym (assoc u b y)) (negated (v *ℤ c) y ∙ ap neg_ℤ (sym (assoc v c y)))

-- ---- the laws

-- constants taken m times combine as the constants do
scaled_constants : (d u v m a b c : ℤ) → d *ℤ a ≡ (u *ℤ b) -ℤ (v *ℤ c) → d *ℤ (m *ℤ a) ≡ (u *ℤ (m *ℤ b)) -ℤ (v *ℤ (m *ℤ c))
scaled_constants d u v m a b c e =
    crossed m d a ∙ ap (λ (z : ℤ). m *ℤ z) e ∙ times_difference m (u *ℤ b) (v *ℤ c)
    ∙ ap₂ ◌-ℤ◌ (crossed u m b) (crossed v m c)

pub positive_nonzero : (d : ℕ) → 0 < d → pos d ≢ pos 0
positive_nonzero d some e = absurd (omega (arith, ints))

-- a combination has an entry only where the row or the pivot has one
pub cancelled_none : (r s t : SparseRow) (column k : ℕ) → IsCancelled r s column t → coefficient r.entries k ≡ pos 0 → coefficient s.entries k ≡ pos 0 → coefficient t.entries k ≡ pos 0
cancelled_none r s t column k c none_r none_s =
    let some = c.combination.positive in
    let is = c.combination.entries k in
    let left : c.u *ℤ coefficient r.entries k ≡ pos 0 = ap (λ (z : ℤ). c.u *ℤ z) none_r ∙ *ℤ-zero c.u in
    let right : c.v *ℤ coefficient s.entries k ≡ pos 0 = ap (λ (z : ℤ). c.v *ℤ z) none_s ∙ *ℤ-zero c.v in
    zero_factor (pos c.combination.divisor) (coefficient t.entries k) (λ e. absurd (omega (arith, ints))) (is ∙ (let l = left in let r = right in omega (arith, ints)))

pub keeps_points : KeepsPoints
keeps_points r s t u v m x c on_r on_s =
    let sides = combined_sides t.entries r.entries s.entries (pos c.divisor) u v x c.entries in
    let constants = scaled_constants (pos c.divisor) u v m t.constant r.constant s.constant c.constant in
    one_factor (pos c.divisor) (left_side t.entries x) (m *ℤ t.constant) (positive_nonzero c.divisor c.positive)
    (sides ∙ ap₂ ◌-ℤ◌ (ap (λ (z : ℤ). u *ℤ z) on_r) (ap (λ (z : ℤ). v *ℤ z) on_s) ∙ sym constants)

pub gives_back_points : GivesBackPoints
gives_back_points r s t u v m x nonzero c on_t on_s =
    let sides = combined_sides t.entries r.entries s.entries (pos c.divisor) u v x c.entries in
    let constants = scaled_constants (pos c.divisor) u v m t.constant r.constant s.constant c.constant in
    let at_t = ap (λ (z : ℤ). pos c.divisor *ℤ z) on_t in
    let at_s = ap (λ (z : ℤ). v *ℤ z) on_s in
    one_factor u (left_side r.entries x) (m *ℤ r.constant) nonzero (omega (arith, ints))

pub one_pair : OnePairOfFactors
one_pair a b u v u' v' nonzero first second =
    let same = same_from_IsGcd (unsigned_abs a) (unsigned_abs b) first.divisor second.divisor first.greatest second.greatest in
    let some = positive_nonzero first.divisor (gcd_positive a b first.divisor nonzero first.greatest) in
    let moved = λ (z : ℤ). ap (λ (g : ℕ). pos g *ℤ z) same in (
      one_factor (pos first.divisor) u u' some (first.first ∙ sym (moved u' ∙ second.first)),
      one_factor (pos first.divisor) v v' some (first.second ∙ sym (moved v' ∙ second.second)),
    )

-- old is the factor times new, side by side
primitive_sides : (old new : SparseRow) (x : ℕ → ℤ) (p : IsPrimitiveOf old new) → p.factor *ℤ left_side new.entries x ≡ left_side old.entries x
primitive_sides old new x p =
    combined_sides new.entries old.entries [] p.factor (pos 1) (pos 0) x (λ k. p.entries k ∙ sym (alone (coefficient old.entries k)))
    ∙ alone (left_side old.entries x)
  where
    alone : (z : ℤ) → (pos 1 *ℤ z) -ℤ (pos 0 *ℤ pos 0) ≡ z
    alone z = let one = one_times z in omega (arith, ints)

pub primitive_points : PrimitiveKeepsPoints
primitive_points old new m x p =
    let sides = primitive_sides old new x p in
    let constants = crossed m p.factor new.constant ∙ ap (λ (z : ℤ). m *ℤ z) p.constant in (
      λ on_old. one_factor p.factor (left_side new.entries x) (m *ℤ new.constant) p.nonzero (sides ∙ on_old ∙ sym constants),
      λ on_new. sym sides ∙ ap (λ (z : ℤ). p.factor *ℤ z) on_new ∙ constants,
    )
