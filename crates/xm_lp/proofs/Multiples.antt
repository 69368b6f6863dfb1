-- Least common multiples, for the least denominator of a point.
use Rattle.std.proofs.Common.{◌≡◌, ℕ, zero, suc, ◌*◌, ◌/◌, ◌%◌, ◌<◌, ◌≤◌, ◌↔◌, refl, sym, ◌∙◌, ap, subst, arith}
use Rattle.std.proofs.Common.{inl, inr}
use Rattle.std.proofs.lemmas.Bool.{cases_lt}
use Rattle.std.specs.Int.{◌∣◌, IsGcd}
use Rattle.xm_lp.specs.Inner.Multiple.{IsLeastMultiple}
use Rattle.std.proofs.lemmas.Nat.Gcd.{dvd_trans, IsGcd-from_zero, IsGcd-swap, IsGcd-from_mod}
use Rattle.std.proofs.lemmas.Nat.Gcd.{dvd_antisymm}
use Rattle.std.proofs.Math.Nat.{le-mul_of_pos_right, pos_of_dvd_of_pos, mul-le-mul_left, div-mul_cancel, mod-lt}
use Rattle.std.proofs.Math.Nat.{mul-dvd-mul_left, mul-dvd-mul_right, dvd-mul_left, dvd-mul_right}
use Rattle.std.proofs.Math.Nat.{dvd_of_mul-dvd-mul_left, dvd_of_mul-dvd-mul_right}

pub record HasGcd (a b : ℕ) : Type 0 where
  pub divisor : ℕ
  pub is : IsGcd a b divisor

pub has_gcd : (fuel a b : ℕ) → b ≤ fuel → HasGcd a b
has_gcd fuel a zero bound = record { divisor = a; is = IsGcd-from_zero a zero refl }
has_gcd zero a (suc b) bound = absurd (omega arith)
has_gcd (suc fuel) a (suc b) bound =
    let less = mod-lt a {m = suc b} (omega arith) in
    let rest = has_gcd fuel (suc b) (a % suc b) (omega (arith, less)) in
    record { divisor = rest.divisor; is = IsGcd-from_mod a (suc b) rest.divisor rest.is }

-- a greatest common divisor, all taken d times
scaled_gcd : (d a b g : ℕ) → 0 < d → IsGcd a b g → (k : ℕ) → k ∣ d * a → k ∣ d * b → k ∣ d * g
scaled_gcd d a b g some h k first second =
    let whole = has_gcd (d * b) (d * a) (d * b) (omega arith) in
    let m = whole.divisor in
    let has_d = whole.is.2 d (dvd-mul_right d a) (dvd-mul_right d b) in
    let part = div-mul_cancel d has_d in
    let same : m ≡ d * (m / d) = omega (arith, part) in
    let of_a = dvd_of_mul-dvd-mul_left (m / d) some (subst (λ (n : ℕ). n ∣ d * a) same whole.is.0) in
    let of_b = dvd_of_mul-dvd-mul_left (m / d) some (subst (λ (n : ℕ). n ∣ d * b) same whole.is.1) in
    let of_g = mul-dvd-mul_left (m / d) d (h.2 (m / d) of_a of_b) in
    dvd_trans k (whole.is.2 k first second) (subst (λ (n : ℕ). n ∣ d * g) (sym same) of_g)

-- d times c over e is whole exactly where e over their greatest common divisor divides d
pub part_divides : (c e g d : ℕ) → 0 < d → 0 < g → IsGcd c e g → (e / g ∣ d) ↔ (e ∣ d * c)
part_divides c e g d some up h =
    let part = div-mul_cancel g h.1 in (
      λ divides.
          let times = mul-dvd-mul_right (e / g) divides g in
          dvd_trans e (subst (λ (n : ℕ). n ∣ d * g) part times) (mul-dvd-mul_left g d h.0),
      λ whole.
          let times = scaled_gcd d c e g some h e whole (dvd-mul_left e d) in
          dvd_of_mul-dvd-mul_right (e / g) up (subst (λ (n : ℕ). n ∣ d * g) (sym part) times),
    )

some_part : (o b : ℕ) → 0 < o → b ∣ o → 0 < o / b
some_part o b some h =
    let part = div-mul_cancel b h in positive (o / b) part
  where
    positive : (q : ℕ) → q * b ≡ o → 0 < q
    positive zero e = absurd (omega (arith, e, some))
    positive (suc q) e = omega arith

pub least_multiple_is : (a b g : ℕ) → 0 < a → 0 < b → IsGcd a b g → IsLeastMultiple a b (a / g * b)
least_multiple_is a b g some_a some_b h =
    let up = pos_of_dvd_of_pos h.0 some_a in
    let part = div-mul_cancel g h.0 in
    let quotient = some_part a g some_a h.0 in
    let bound = le-mul_of_pos_right (a / g) some_b in
    record {
      positive = omega (arith, quotient, bound);
      first = subst (λ (n : ℕ). n ∣ a / g * b) part (mul-dvd-mul_left g (a / g) h.1);
      second = dvd-mul_left b (a / g);
      least = λ other some in_a in_b.
          let whole = div-mul_cancel b in_b in
          let divides = (part_divides b a g (other / b) (some_part other b some in_b) up (IsGcd-swap a b g h)).1 (subst (λ (n : ℕ). a ∣ n) (sym whole) in_a) in
          subst (λ (n : ℕ). a / g * b ∣ n) whole (mul-dvd-mul_right (a / g) divides b);
    }

-- there is one
pub one_least : (a b m n : ℕ) → IsLeastMultiple a b m → IsLeastMultiple a b n → m ≡ n
one_least a b m n first second =
    dvd_antisymm (first.least n second.positive second.first second.second) (second.least m first.positive first.first first.second)

-- e = E g, c = C g and d = Q E give e (C Q) = d c
whole_value : (E C Q g e c d n : ℕ) → E * g ≡ e → C * g ≡ c → Q * E ≡ d → n ≡ C * Q → e * n ≡ d * c
whole_value E C Q g e c d n is_e is_c is_d is_n =
    ap (λ (x : ℕ). x * n) (sym is_e) ∙ ap (λ (x : ℕ). E * g * x) is_n ∙ turn ∙ ap (λ (x : ℕ). x * (C * g)) is_d ∙ ap (λ (x : ℕ). d * x) is_c
  where
    turn : E * g * (C * Q) ≡ Q * E * (C * g)
    turn = omega arith

pub whole_is : (d c e g : ℕ) → 0 < d → 0 < e → IsGcd c e g → e ∣ d * c → e * (c / g * (d / (e / g))) ≡ d * c
whole_is d c e g some up h divides =
    let some_g = pos_of_dvd_of_pos h.1 up in
    let part = (part_divides c e g d some some_g h).1 divides in
    whole_value (e / g) (c / g) (d / (e / g)) g e c d (c / g * (d / (e / g))) (div-mul_cancel g h.1) (div-mul_cancel g h.0) (div-mul_cancel (e / g) part) refl

pub some_quotient : (e c g : ℕ) → 0 < e → IsGcd c e g → 0 < e / g
some_quotient e c g up h = some_part e g up h.1

pub one_whole : (e m n : ℕ) → 0 < e → e * m ≡ e * n → m ≡ n
one_whole e m n some same =
    elim (cases_lt m n) [
      | inl lt ↦ let bound = mul-le-mul_left e lt in absurd (omega (arith, bound, same))
      | inr le ↦ elim (cases_lt n m) [
        | inl lt ↦ let bound = mul-le-mul_left e lt in absurd (omega (arith, bound, same))
        | inr ge ↦ omega arith
      ]
    ]
