-- Greatest common divisors of rows, and rows divided.
use Rattle.std.proofs.Common.{◌≡◌, ◌≢◌, ℕ, zero, suc, ◌+◌, ◌*◌, ◌/◌, ◌^◌, ◌<◌, ◌≤◌, ◌⊎◌, inl, inr, List, [], ◌∷◌, ◌++◌, length, take, drop, get_or, map, Bool, true, false, cond, nat_eq, refl, sym, ◌∙◌, ap, ap₂, subst, arith, pos, negsuc, neg_ℤ, ltb-true, le-ltb, ℤ, ◌+ℤ◌, ◌*ℤ◌, ◌<ℤ◌, unsigned_abs, int_div, All}
use Rattle.std.specs.Int.{◌∣◌, IsGcd, is_negative}
use Rattle.std.proofs.lemmas.Int.{unsigned_abs-mul, ints}
use Rattle.std.proofs.lemmas.List.{take_more, take_all, take-append-drop}
use Rattle.std.proofs.lemmas.List.Elements.{All-head, All-tail, All-cons, All-nil, All-push, All-weaker, All-map}
use Rattle.std.proofs.lemmas.Nat.Gcd.{dvd_refl, dvd_trans, le_of_dvd}
use Rattle.std.proofs.Math.IntN.{*ℤ_comm, zero-*ℤ, *ℤ-zero}
use Rattle.std.proofs.Math.Nat.{eq-zero_of_zero-dvd, dvd_of_mul-dvd-mul_right, mul-dvd-mul_right, one-dvd, le-mul_of_pos_right}
use Rattle.xm_rows.specs.declared.row.Entry.{Entry}
use Rattle.xm_rows.specs.Row.{SparseRow, IsRow, IsRising, Fits128, coefficient}
use Rattle.xm_rows.specs.Divisor.{IsCommonDivisor, IsRowDivisor, IsReductionOf, IsLeadingFactor, IsPrimitiveOf, over, divided}
use Rattle.xm_rows.specs.Lemmas.Integers.{abs_positive, zero_from_abs, quotient_times, distrib, one_times}

all_left : (P : Entry → Type 0) (xs ys : List Entry) → All P (xs ++ ys) → All P xs
all_left P [] ys h = All-nil P
all_left P (x ∷ xs) ys h = All-cons P x xs (All-head P x (xs ++ ys) h) (all_left P xs ys (All-tail P x (xs ++ ys) h))

all_last : (P : Entry → Type 0) (xs : List Entry) (y : Entry) → All P (xs ++ y ∷ []) → P y
all_last P [] y h = All-head P y [] h
all_last P (x ∷ xs) y h = all_last P xs y (All-tail P x (xs ++ y ∷ []) h)

pub divisor_none : (d : ℕ) (constant z : ℤ) → d ≡ unsigned_abs constant → z ≡ constant →
    IsRowDivisor d (record { entries = []; constant = z })
divisor_none d constant z e same =
    let is : unsigned_abs z ≡ d = ap unsigned_abs same ∙ sym e in
    ((All-nil (λ e. d ∣ unsigned_abs e.value), subst (λ (n : ℕ). d ∣ n) (sym is) (dvd_refl d)), λ other h. subst (λ (n : ℕ). other ∣ n) is h.1)

divisor_push : (es : List Entry) (x : Entry) (constant : ℤ) (before next : ℕ) →
    IsRowDivisor before (record { entries = es; constant = constant }) → IsGcd (unsigned_abs x.value) before next →
    IsRowDivisor next (record { entries = es ++ x ∷ []; constant = constant })
divisor_push es x constant before next h g =
    let P = λ (d : ℕ) (e : Entry). d ∣ unsigned_abs e.value in (
      (All-push (P next) es x (All-weaker (P before) (P next) (λ e p. dvd_trans next g.1 p) es h.0.0) g.0, dvd_trans next g.1 h.0.1),
      λ other common. g.2 other (all_last (P other) es x common.0) (h.1 other (all_left (P other) es (x ∷ []) common.0, common.1)),
    )

pub divisor_more : (es : List Entry) (i : ℕ) (d : Entry) (constant : ℤ) (before next : ℕ) → i < length es →
    IsRowDivisor before (record { entries = take i es; constant = constant }) →
    IsGcd (unsigned_abs (get_or es i d).value) before next →
    IsRowDivisor next (record { entries = take (i + 1) es; constant = constant })
divisor_more es i d constant before next in_list h g =
    rw (take_more es i d in_list) (divisor_push (take i es) (get_or es i d) constant before next h g)

pub divisor_all : (es : List Entry) (i : ℕ) (z constant : ℤ) (d : ℕ) → length es ≤ i → z ≡ constant →
    IsRowDivisor d (record { entries = take i es; constant = z }) → IsRowDivisor d (record { entries = es; constant = constant })
divisor_all es i z constant d past same h = rw (take_all i es past, same) at h

-- once it is 1, no further value changes it
pub divisor_one : (es : List Entry) (i : ℕ) (z constant : ℤ) → z ≡ constant → IsRowDivisor 1 (record { entries = take i es; constant = z }) →
    IsRowDivisor 1 (record { entries = es; constant = constant })
divisor_one es i z constant same h = (
  ((λ k d below. one-dvd (unsigned_abs (get_or es k d).value)), one-dvd (unsigned_abs constant)),
  λ other common. h.1 other (
    all_left (λ e. other ∣ unsigned_abs e.value) (take i es) (drop i es) (subst (All (λ e. other ∣ unsigned_abs e.value)) (sym (take-append-drop i es)) common.0),
    subst (λ (y : ℤ). other ∣ unsigned_abs y) (sym same) common.1,
  ),
)

-- a divisor of a number other than 0 is no greater than it
divides_within : (d : ℕ) (z : ℤ) → z ≢ pos 0 → Fits128 z → d ∣ unsigned_abs z → d < 2 ^ 127
divides_within d z nonzero fits h = let below = le_of_dvd (abs_positive z nonzero) h in omega (arith, below)

zero_or_other : (z : ℤ) → (z ≡ pos 0) ⊎ (z ≢ pos 0)
zero_or_other (pos zero) = inl refl
zero_or_other (pos (suc n)) = inr (λ h. absurd (omega (arith, ints)))
zero_or_other (negsuc n) = inr (λ h. absurd (omega (arith, ints)))

no_entries : (es : List Entry) → All (λ e. e.value ≢ pos 0) es → All (λ e. 0 ∣ unsigned_abs e.value) es → es ≡ []
no_entries [] nonzero h = refl
no_entries (e ∷ es) nonzero h =
    absurd (All-head (λ f. f.value ≢ pos 0) e es nonzero (zero_from_abs e.value (eq-zero_of_zero-dvd (All-head (λ f. 0 ∣ unsigned_abs f.value) e es h))))

times_choice : (b : Bool) (f q z : ℤ) → f *ℤ q ≡ z → f *ℤ cond b q (pos 0) ≡ cond b z (pos 0)
times_choice true f q z e = e
times_choice false f q z e = *ℤ-zero f

-- all numbers of a row fit, so their greatest common divisor does
divisor_fits_by : (es : List Entry) (z : ℤ) (d : ℕ) → All (λ e. e.value ≢ pos 0) es → All (λ e. Fits128 e.value) es → Fits128 z →
    IsRowDivisor d (record { entries = es; constant = z }) → d < 2 ^ 127
divisor_fits_by (e ∷ es) z d nonzero fit fits h =
    divides_within d e.value (All-head (λ f. f.value ≢ pos 0) e es nonzero) (All-head (λ f. Fits128 f.value) e es fit)
    (All-head (λ f. d ∣ unsigned_abs f.value) e es h.0.0)
divisor_fits_by [] z d nonzero fit fits h =
    elim (zero_or_other z) [
      | inr other ↦ divides_within d z other fits h.0.1
      | inl nothing ↦
          let none : 0 ∣ unsigned_abs z = rw nothing (dvd_refl 0) in
          let is = eq-zero_of_zero-dvd (h.1 0 (All-nil (λ e. 0 ∣ unsigned_abs e.value), none)) in
          omega arith
    ]

pub divisor_fits : (r : SparseRow) (d : ℕ) → IsRow r → IsRowDivisor d r → d < 2 ^ 127
divisor_fits r d row h = divisor_fits_by r.entries r.constant d row.nonzero row.fit row.constant_fits h

-- a greatest common divisor 0 is that of zeros alone
pub zero_divisor : (r : SparseRow) → IsRow r → IsRowDivisor 0 r → (r.entries ≡ []) × (r.constant ≡ pos 0)
zero_divisor r row h = (no_entries r.entries row.nonzero h.0.0, zero_from_abs r.constant (eq-zero_of_zero-dvd h.0.1))

-- ---- division by a factor

divided_column : (f : ℤ) (es : List Entry) → IsRising es → IsRising (map (over f) es)
divided_column f [] up = tt
divided_column f (e ∷ []) up = tt
divided_column f (e ∷ g ∷ es) up = (up.0, divided_column f (g ∷ es) up.1)

nonzero_quotient : (z f : ℤ) → z ≢ pos 0 → unsigned_abs f ∣ unsigned_abs z → int_div z f ≢ pos 0
nonzero_quotient z f nonzero h gone =
    nonzero (sym (quotient_times z f h) ∙ rw gone (zero-*ℤ f))

pub divided_coefficient : (f : ℤ) (es : List Entry) (k : ℕ) → All (λ e. unsigned_abs f ∣ unsigned_abs e.value) es →
    f *ℤ coefficient (map (over f) es) k ≡ coefficient es k
divided_coefficient f [] k h = *ℤ-zero f
divided_coefficient f (e ∷ es) k h =
    let here = quotient_times e.value f (All-head (λ g. unsigned_abs f ∣ unsigned_abs g.value) e es h) in
    let rest = divided_coefficient f es k (All-tail (λ g. unsigned_abs f ∣ unsigned_abs g.value) e es h) in
    distrib f (cond (nat_eq e.column k) (int_div e.value f) (pos 0)) (coefficient (map (over f) es) k)
    ∙ ap₂ ◌+ℤ◌ (times_choice (nat_eq e.column k) f (int_div e.value f) e.value (*ℤ_comm f (int_div e.value f) ∙ here)) rest

fits_quotient : (z f : ℤ) → f ≢ pos 0 → Fits128 z → unsigned_abs f ∣ unsigned_abs z → Fits128 (int_div z f)
fits_quotient z f nonzero fits h =
    let product = sym (unsigned_abs-mul (int_div z f) f) ∙ ap unsigned_abs (quotient_times z f h) in
    let larger = le-mul_of_pos_right (unsigned_abs (int_div z f)) (abs_positive f nonzero) in
    omega (arith, product, larger)

all_both : {P Q R : Entry → Type 0} (es : List Entry) → All P es → All Q es → ((e : Entry) → P e → Q e → R e) → All R es
all_both es p q step = λ k d within. step (get_or es k d) (p k d within) (q k d within)

-- a row divided by a common divisor is a row
pub divided_row : (f : ℤ) (r : SparseRow) → f ≢ pos 0 → IsCommonDivisor (unsigned_abs f) r → IsRow r → IsRow (divided f r)
divided_row f r nonzero h row =
    record {
      rising = divided_column f r.entries row.rising;
      nonzero = All-map (λ e. e.value ≢ pos 0) (over f) r.entries (all_both r.entries row.nonzero h.0 (λ e p q. nonzero_quotient e.value f p q));
      fit = All-map (λ e. Fits128 e.value) (over f) r.entries (all_both r.entries row.fit h.0 (λ e p q. fits_quotient e.value f nonzero p q));
      constant_fits = fits_quotient r.constant f nonzero row.constant_fits h.1;
    }

-- ---- what is left after division by the greatest common divisor

-- a divisor of the quotients, taken as often as the factor, divides the numbers
times_factor : (o : ℕ) (z f : ℤ) → unsigned_abs f ∣ unsigned_abs z → o ∣ unsigned_abs (int_div z f) → o * unsigned_abs f ∣ unsigned_abs z
times_factor o z f h g =
    let product = sym (unsigned_abs-mul (int_div z f) f) ∙ ap unsigned_abs (quotient_times z f h) in
    subst (λ (n : ℕ). o * unsigned_abs f ∣ n) product (mul-dvd-mul_right o g (unsigned_abs f))

times_factors : (o : ℕ) (f : ℤ) (es : List Entry) → All (λ e. unsigned_abs f ∣ unsigned_abs e.value) es → All (λ e. o ∣ unsigned_abs e.value) (map (over f) es) →
    All (λ e. o * unsigned_abs f ∣ unsigned_abs e.value) es
times_factors o f [] h g = All-nil (λ e. o * unsigned_abs f ∣ unsigned_abs e.value)
times_factors o f (e ∷ es) h g =
    All-cons (λ e. o * unsigned_abs f ∣ unsigned_abs e.value) e es
    (times_factor o e.value f (All-head (λ e. unsigned_abs f ∣ unsigned_abs e.value) e es h) (All-head (λ e. o ∣ unsigned_abs e.value) (over f e) (map (over f) es) g))
    (times_factors o f es (All-tail (λ e. unsigned_abs f ∣ unsigned_abs e.value) e es h) (All-tail (λ e. o ∣ unsigned_abs e.value) (over f e) (map (over f) es) g))

pub divided_lowest : (f : ℤ) (r : SparseRow) → f ≢ pos 0 → IsRowDivisor (unsigned_abs f) r → IsRowDivisor 1 (divided f r)
divided_lowest f r nonzero h = (
  (λ k d within. one-dvd (unsigned_abs (get_or (map (over f) r.entries) k d).value), one-dvd (unsigned_abs (int_div r.constant f))),
  λ other common.
      let whole = h.1 (other * unsigned_abs f) (times_factors other f r.entries h.0.0 common.0, times_factor other r.constant f h.0.1 common.1) in
      let same : 1 * unsigned_abs f ≡ unsigned_abs f = omega arith in
      dvd_of_mul-dvd-mul_right other (abs_positive f nonzero) (subst (λ (n : ℕ). other * unsigned_abs f ∣ n) (sym same) whole),
)

pub reduced_by : (r : SparseRow) (d : ℕ) → 0 < d → IsRowDivisor d r → IsReductionOf r (divided (pos d) r)
reduced_by r d some h =
    record {
      divisor = d;
      positive = some;
      entries = λ k. divided_coefficient (pos d) r.entries k h.0.0;
      constant = *ℤ_comm (pos d) (int_div r.constant (pos d)) ∙ quotient_times r.constant (pos d) h.0.1;
      reduced = inl (divided_lowest (pos d) r (λ e. absurd (omega (arith, ints))) h);
    }

-- a divisor 1 or 0 leaves the row as it is
pub reduced_already : (r : SparseRow) (d : ℕ) → d ≤ 1 → IsRowDivisor d r → (d ≡ 0 → (r.entries ≡ []) × (r.constant ≡ pos 0)) → IsReductionOf r r
reduced_already r zero le h zeros = record { divisor = 1; positive = omega arith; entries = λ k. one_times (coefficient r.entries k); constant = one_times r.constant; reduced = inr (zeros refl) }
reduced_already r (suc zero) le h zeros = record { divisor = 1; positive = omega arith; entries = λ k. one_times (coefficient r.entries k); constant = one_times r.constant; reduced = inl h }
reduced_already r (suc (suc n)) le h zeros = absurd (omega arith)

-- ---- a positive lead

not_negative : (n : ℕ) → is_negative (pos n) ≡ true → ⊥
not_negative n e = absurd (let below = ltb-true n 0 e in omega arith)

is_negative_down : (d : ℕ) → 0 < d → is_negative (neg_ℤ (pos d)) ≡ true
is_negative_down zero some = absurd (omega arith)
is_negative_down (suc n) some = refl

is_negative_up : (d : ℕ) → is_negative (pos d) ≡ false
is_negative_up d = le-ltb d 0 (omega arith)

abs_down : (d : ℕ) → unsigned_abs (neg_ℤ (pos d)) ≡ d
abs_down zero = refl
abs_down (suc n) = refl

positive : (n : ℕ) → pos n ≢ pos 0 → pos 0 <ℤ pos n
positive zero some = absurd (some refl)
positive (suc n) some = omega (arith, ints)

positive_quotient : (z f : ℤ) → int_div z f ≢ pos 0 → is_negative f ≡ is_negative z → pos 0 <ℤ int_div z f
positive_quotient (pos a) (pos b) some same = positive (a / b) some
positive_quotient (pos a) (negsuc b) some same = absurd (not_negative a (sym same))
positive_quotient (negsuc a) (pos b) some same = absurd (not_negative b same)
positive_quotient (negsuc a) (negsuc b) some same = positive (suc a / suc b) some

lead_positive : (f : ℤ) (gs : List Entry) (e : Entry) (es : List Entry) → All (λ g. g.value ≢ pos 0) gs → All (λ g. unsigned_abs f ∣ unsigned_abs g.value) gs →
    ((g : Entry) (rest : List Entry) → gs ≡ g ∷ rest → is_negative f ≡ is_negative g.value) → map (over f) gs ≡ e ∷ es → pos 0 <ℤ e.value
lead_positive f [] e es nonzero h sign is = absurd (cc)
lead_positive f (g ∷ gs) e es nonzero h sign is =
    let first : over f g ≡ e = cc in
    let some = nonzero_quotient g.value f (All-head (λ g. g.value ≢ pos 0) g gs nonzero) (All-head (λ g. unsigned_abs f ∣ unsigned_abs g.value) g gs h) in
    subst (λ (k : Entry). pos 0 <ℤ k.value) first (positive_quotient g.value f some (sign g gs refl))

pub primitive_by : (f : ℤ) (r : SparseRow) → IsRow r → IsLeadingFactor f r → IsPrimitiveOf r (divided f r)
primitive_by f r row h =
    record {
      factor = f;
      nonzero = h.nonzero;
      entries = λ k. divided_coefficient f r.entries k h.greatest.0.0;
      constant = *ℤ_comm f (int_div r.constant f) ∙ quotient_times r.constant f h.greatest.0.1;
      leads = λ e es is. lead_positive f r.entries e es row.nonzero h.greatest.0.0 h.sign is;
      lowest = divided_lowest f r h.nonzero h.greatest;
    }

-- a row with entries has a divisor that is not 0
pub some_divisor : (r : SparseRow) (d : ℕ) → IsRow r → IsRowDivisor d r → 1 ≤ length r.entries → 0 < d
some_divisor r zero row h some = let none = ap length (zero_divisor r row h).0 in absurd (omega arith)
some_divisor r (suc n) row h some = omega arith

leading_by : (f : ℤ) (d : ℕ) (r : SparseRow) (none : Entry) → unsigned_abs f ≡ d → 0 < d → IsRowDivisor d r → 1 ≤ length r.entries →
    is_negative f ≡ is_negative (get_or r.entries 0 none).value → IsLeadingFactor f r
leading_by f d r none is positive h some sign =
    record {
      some = λ e. absurd (let gone = ap length e in omega arith);
      greatest = subst (λ (n : ℕ). IsRowDivisor n r) (sym is) h;
      nonzero = λ e. absurd (let gone = ap unsigned_abs e in omega arith);
      sign = λ e es first. sign ∙ ap (λ (l : List Entry). is_negative (get_or l 0 none).value) first;
    }

pub leading_down : (d : ℕ) (r : SparseRow) (none : Entry) → 0 < d → IsRowDivisor d r → 1 ≤ length r.entries →
    is_negative (get_or r.entries 0 none).value ≡ true → IsLeadingFactor (neg_ℤ (pos d)) r
leading_down d r none positive h some sign = leading_by (neg_ℤ (pos d)) d r none (abs_down d) positive h some (is_negative_down d positive ∙ sym sign)

pub leading_up : (d : ℕ) (r : SparseRow) (none : Entry) → 0 < d → IsRowDivisor d r → 1 ≤ length r.entries →
    is_negative (get_or r.entries 0 none).value ≡ false → IsLeadingFactor (pos d) r
leading_up d r none positive h some sign = leading_by (pos d) d r none refl positive h some (is_negative_up d ∙ sym sign)
