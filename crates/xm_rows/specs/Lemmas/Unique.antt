-- A row is known by its numbers, and a cancellation has one result.
use Rattle.std.proofs.Common.{◌≡◌, ◌≢◌, ℕ, zero, suc, ◌+◌, ◌-◌, ◌<◌, ◌≤◌, inl, inr, List, [], ◌∷◌, cond, nat_eq, refl, sym, ◌∙◌, ap, ap₂, subst, arith, pos, ℤ, ◌+ℤ◌, ◌-ℤ◌, ◌*ℤ◌, unsigned_abs, All}
use Rattle.std.specs.Int.{◌∣◌}
use Rattle.std.proofs.lemmas.Bool.{cases_eq, cases_order}
use Rattle.std.proofs.lemmas.Int.{ints, unsigned_abs-mul}
use Rattle.std.proofs.lemmas.List.Elements.{All-head, All-tail, All-cons, All-nil, All-weaker}
use Rattle.std.proofs.Math.IntN.{*ℤ-zero}
use Rattle.std.proofs.Math.Nat.{dvd-mul_right, eq-one_of_dvd-one}
use Rattle.std.proofs.lemmas.Nat.Gcd.{dvd-zero}
use Rattle.xm_rows.specs.Lemmas.Entries.{coefficient_absent, first_coefficient, later_coefficient, rising_above, rising_tail}
use Rattle.xm_rows.specs.Lemmas.Integers.{distrib_right, one_factor, one_times, times_difference}
use Rattle.xm_rows.specs.Combination.{IsCancelled, Overflows}
use Rattle.xm_rows.specs.Divisor.{IsReduced, IsRowDivisor}
use Rattle.xm_rows.specs.Lemmas.Meeting.{one_pair}
use Rattle.xm_rows.specs.Row.{IsRising, IsRow, SparseRow, coefficient}
use Rattle.xm_rows.specs.declared.row.Entry.{Entry}

-- ---- rows that are multiples of each other are multiples of one row

record Root (t u : ℕ → ℤ) : Type 0 where
  pub a : ℕ
  pub b : ℕ
  pub s : ℕ → ℤ
  pub first : (k : ℕ) → t k ≡ pos a *ℤ s k
  pub second : (k : ℕ) → u k ≡ pos b *ℤ s k

sum_times : (d f : ℕ) (z : ℤ) → pos (d + f) *ℤ z ≡ (pos d *ℤ z) +ℤ (pos f *ℤ z)
sum_times d f z = let is : pos (d + f) ≡ pos d +ℤ pos f = omega (arith, ints) in ap (λ (y : ℤ). y *ℤ z) is ∙ distrib_right (pos d) (pos f) z

positive : (d : ℕ) → 0 < d → pos d ≢ pos 0
positive d some e = absurd (omega (arith, ints))

root : (fuel d e : ℕ) (t u : ℕ → ℤ) → d + e ≤ fuel → 0 < d → 0 < e → ((k : ℕ) → pos d *ℤ t k ≡ pos e *ℤ u k) → Root t u
root zero d e t u small some_d some_e h = absurd (omega arith)
root (suc fuel) d e t u small some_d some_e h =
    elim (cases_order d e) [
      | inl same ↦
          record {
            a = 1;
            b = 1;
            s = t;
            first = λ k. sym (one_times (t k));
            second = λ k. one_factor (pos e) (u k) (pos 1 *ℤ t k) (positive e some_e)
                (sym (h k) ∙ ap (λ (n : ℕ). pos n *ℤ t k) same ∙ ap (λ (z : ℤ). pos e *ℤ z) (sym (one_times (t k))));
          }
      | inr w ↦ elim w [
        | inl below ↦
            let f = e - d in
            let is : e ≡ d + f = omega arith in
            let less = root fuel d f (λ k. t k -ℤ u k) u (omega arith) some_d (omega arith) (λ k.
            let parted = times_difference (pos d) (t k) (u k) in
            let whole = h k ∙ ap (λ (n : ℕ). pos n *ℤ u k) is ∙ sum_times d f (u k) in
            omega (arith, ints)) in
            record {
              a = less.a + less.b;
              b = less.b;
              s = less.s;
              first = λ k. (let one = less.first k in let two = less.second k in let all = sum_times less.a less.b (less.s k) in omega (arith, ints));
              second = less.second;
            }
        | inr above ↦
            let f = d - e in
            let is : d ≡ e + f = omega arith in
            let less = root fuel f e t (λ k. u k -ℤ t k) (omega arith) (omega arith) some_e (λ k.
            let parted = times_difference (pos e) (u k) (t k) in
            let whole = sym (h k) ∙ ap (λ (n : ℕ). pos n *ℤ t k) is ∙ sum_times e f (t k) in
            omega (arith, ints)) in
            record {
              a = less.a;
              b = less.a + less.b;
              s = less.s;
              first = less.first;
              second = λ k. (let one = less.first k in let two = less.second k in let all = sum_times less.a less.b (less.s k) in omega (arith, ints));
            }
      ]
    ]

-- a row as a function: its constant, and then its columns
abbrev pub numbers : SparseRow → ℕ → ℤ
numbers r zero = r.constant
numbers r (suc k) = coefficient r.entries k

divides : (a : ℕ) (z s : ℤ) → z ≡ pos a *ℤ s → a ∣ unsigned_abs z
divides a z s is = subst (λ (n : ℕ). a ∣ n) (sym (ap unsigned_abs is ∙ unsigned_abs-mul (pos a) s)) (dvd-mul_right a (unsigned_abs s))

-- a number that divides each column divides each value
divides_all : (a : ℕ) (es : List Entry) → IsRising es → ((k : ℕ) → a ∣ unsigned_abs (coefficient es k)) → All (λ e. a ∣ unsigned_abs e.value) es
divides_all a [] up h = All-nil (λ (e : Entry). a ∣ unsigned_abs e.value)
divides_all a (e ∷ es) up h =
    let here = subst (λ (z : ℤ). a ∣ unsigned_abs z) (first_coefficient e es e.column up refl) (h e.column) in
    All-cons (λ (f : Entry). a ∣ unsigned_abs f.value) e es here
    (divides_all a es (rising_tail e es up) (λ k. elim (cases_eq e.column k) [
      | inl is ↦
          let none = coefficient_absent es k (All-weaker (λ (f : Entry). e.column < f.column) (λ f. f.column ≢ k) (λ f p. omega arith) es (rising_above e es e.column (omega arith) up)) in
          subst (λ (z : ℤ). a ∣ unsigned_abs z) (sym none) (dvd-zero a)
      | inr other ↦ subst (λ (z : ℤ). a ∣ unsigned_abs z) (later_coefficient e es k other) (h k)
    ]))

factor_one : (r : SparseRow) (a : ℕ) (s : ℕ → ℤ) → IsRow r → IsRowDivisor 1 r → ((k : ℕ) → numbers r k ≡ pos a *ℤ s k) → a ≡ 1
factor_one r a s row lowest h =
    eq-one_of_dvd-one (lowest.1 a (divides_all a r.entries row.rising (λ k. divides a (coefficient r.entries k) (s (suc k)) (h (suc k))), divides a r.constant (s 0) (h 0)))

-- ---- rows with the same numbers are the same

entry_is : (e f : Entry) → e.column ≡ f.column → e.value ≡ f.value → e ≡ f
entry_is e f p q = ap₂ (λ (c : ℕ) (v : ℤ). entry c v) p q
  where
    entry : ℕ → ℤ → Entry
    entry c v = record { column = c; value = v }

same_entries : (es fs : List Entry) → IsRising es → IsRising fs → All (λ e. e.value ≢ pos 0) es → All (λ e. e.value ≢ pos 0) fs → ((k : ℕ) → coefficient es k ≡ coefficient fs k) → es ≡ fs
same_entries [] [] up vp nonzero_e nonzero_f h = refl
same_entries [] (f ∷ fs) up vp nonzero_e nonzero_f h =
    absurd (All-head (λ (g : Entry). g.value ≢ pos 0) f fs nonzero_f (sym (first_coefficient f fs f.column vp refl) ∙ sym (h f.column)))
same_entries (e ∷ es) [] up vp nonzero_e nonzero_f h =
    absurd (All-head (λ (g : Entry). g.value ≢ pos 0) e es nonzero_e (sym (first_coefficient e es e.column up refl) ∙ h e.column))
same_entries (e ∷ es) (f ∷ fs) up vp nonzero_e nonzero_f h =
    let first_e = first_coefficient e es e.column up refl in
    let first_f = first_coefficient f fs f.column vp refl in
    elim (cases_order e.column f.column) [
      | inl same ↦
          let value = sym first_e ∙ h e.column ∙ ap (coefficient (f ∷ fs)) same ∙ first_f in
          let is = entry_is e f same value in
          let rest = same_entries es fs (rising_tail e es up) (rising_tail f fs vp) (All-tail (λ (g : Entry). g.value ≢ pos 0) e es nonzero_e) (All-tail (λ (g : Entry). g.value ≢ pos 0) f fs nonzero_f)
          (λ k.
          let here = h k in
          let test = ap (λ (g : Entry). cond (nat_eq g.column k) g.value (pos 0)) is in
          omega (arith, ints)) in
          ap₂ (λ (g : Entry) (gs : List Entry). g ∷ gs) is rest
      | inr w ↦ elim w [
        | inl below ↦
            let none = coefficient_absent (f ∷ fs) e.column (All-cons (λ (g : Entry). g.column ≢ e.column) f fs (λ is. absurd (omega arith))
            (All-weaker (λ (g : Entry). e.column < g.column) (λ g. g.column ≢ e.column) (λ g p. omega arith) fs (rising_above f fs e.column (omega arith) vp))) in
            absurd (All-head (λ (g : Entry). g.value ≢ pos 0) e es nonzero_e (sym first_e ∙ h e.column ∙ none))
        | inr above ↦
            let none = coefficient_absent (e ∷ es) f.column (All-cons (λ (g : Entry). g.column ≢ f.column) e es (λ is. absurd (omega arith))
            (All-weaker (λ (g : Entry). f.column < g.column) (λ g. g.column ≢ f.column) (λ g p. omega arith) es (rising_above e es f.column (omega arith) up))) in
            absurd (All-head (λ (g : Entry). g.value ≢ pos 0) f fs nonzero_f (sym first_f ∙ sym (h f.column) ∙ none))
      ]
    ]

row_is : (r t : SparseRow) → r.entries ≡ t.entries → r.constant ≡ t.constant → r ≡ t
row_is r t p q = ap₂ (λ (es : List Entry) (c : ℤ). row es c) p q
  where
    row : List Entry → ℤ → SparseRow
    row es c = record { entries = es; constant = c }

pub same_numbers : (r t : SparseRow) → IsRow r → IsRow t → ((k : ℕ) → numbers r k ≡ numbers t k) → r ≡ t
same_numbers r t row_r row_t h = row_is r t (same_entries r.entries t.entries row_r.rising row_t.rising row_r.nonzero row_t.nonzero (λ k. h (suc k))) (h 0)

-- ---- a cancellation has one result

nothing_at : (r : SparseRow) → r.entries ≡ [] → r.constant ≡ pos 0 → (k : ℕ) → numbers r k ≡ pos 0
nothing_at r none zero_constant zero = zero_constant
nothing_at r none zero_constant (suc k) = ap (λ (l : List Entry). coefficient l k) none

times_none : (d : ℕ) (z : ℤ) → 0 < d → pos d *ℤ z ≡ pos 0 → z ≡ pos 0
times_none d z some h = one_factor (pos d) z (pos 0) (positive d some) (h ∙ sym (*ℤ-zero (pos d)))

-- one row in lowest terms, or nothing but zeros, of which another is a multiple
pub one_reduced : (d e : ℕ) (t u : SparseRow) → 0 < d → 0 < e → IsRow t → IsRow u → IsReduced t → IsReduced u → ((k : ℕ) → pos d *ℤ numbers t k ≡ pos e *ℤ numbers u k) → t ≡ u
one_reduced d e t u some_d some_e row_t row_u (inl low_t) (inl low_u) h =
    let r = root (d + e) d e (numbers t) (numbers u) (omega arith) some_d some_e h in
    let a = factor_one t r.a r.s row_t low_t r.first in
    let b = factor_one u r.b r.s row_u low_u r.second in
    same_numbers t u row_t row_u (λ k. r.first k ∙ ap (λ (n : ℕ). pos n *ℤ r.s k) (a ∙ sym b) ∙ sym (r.second k))
one_reduced d e t u some_d some_e row_t row_u (inr none_t) reduced_u h =
    same_numbers t u row_t row_u (λ k.
    let zero_t = nothing_at t none_t.0 none_t.1 k in
    let zero_u = times_none e (numbers u k) some_e (sym (h k) ∙ ap (λ (z : ℤ). pos d *ℤ z) zero_t ∙ *ℤ-zero (pos d)) in
    zero_t ∙ sym zero_u)
one_reduced d e t u some_d some_e row_t row_u (inl low_t) (inr none_u) h =
    same_numbers t u row_t row_u (λ k.
    let zero_u = nothing_at u none_u.0 none_u.1 k in
    let zero_t = times_none d (numbers t k) some_d (h k ∙ ap (λ (z : ℤ). pos e *ℤ z) zero_u ∙ *ℤ-zero (pos e)) in
    zero_t ∙ sym zero_u)

pub one_cancelled : (r s : SparseRow) (column : ℕ) (t u : SparseRow) → coefficient s.entries column ≢ pos 0 → IsRow t → IsRow u →
    IsCancelled r s column t → IsCancelled r s column u → t ≡ u
one_cancelled r s column t u nonzero row_t row_u p q =
    let same = one_pair (coefficient r.entries column) (coefficient s.entries column) p.u p.v q.u q.v nonzero p.factors q.factors in
    one_reduced p.combination.divisor q.combination.divisor t u p.combination.positive q.combination.positive row_t row_u p.combination.reduced q.combination.reduced (by_number same)
  where
    by_number : (p.u ≡ q.u) × (p.v ≡ q.v) → (k : ℕ) → pos p.combination.divisor *ℤ numbers t k ≡ pos q.combination.divisor *ℤ numbers u k
    by_number same zero = p.combination.constant ∙ ap₂ (λ (x y : ℤ). (x *ℤ r.constant) -ℤ (y *ℤ s.constant)) same.0 same.1 ∙ sym q.combination.constant
    by_number same (suc k) =
        p.combination.entries k ∙ ap₂ (λ (x y : ℤ). (x *ℤ coefficient r.entries k) -ℤ (y *ℤ coefficient s.entries k)) same.0 same.1 ∙ sym (q.combination.entries k)

-- what leaves 128 bits is not cancelled
pub never_both : (r s : SparseRow) (column : ℕ) (t : SparseRow) → coefficient s.entries column ≢ pos 0 → IsCancelled r s column t → ¬ Overflows r s column
never_both r s column t nonzero c o =
    let same = one_pair (coefficient r.entries column) (coefficient s.entries column) o.u o.v c.u c.v nonzero o.factors c.factors in
    let leaves = rw (same.0, same.1) at o.leaves in
    elim leaves [
      | inl at_column ↦ at_column.1 (c.fits.entries at_column.0)
      | inr in_constant ↦ in_constant c.fits.constant
    ]
