-- The factors that cancel a column.
use Rattle.std.proofs.Common.{◌≡◌, ◌≢◌, ℕ, zero, suc, ◌^◌, ◌<◌, min, refl, sym, ◌∙◌, ap, arith, pos, negsuc, neg_ℤ, ℤ, ◌-ℤ◌, ◌*ℤ◌, ◌<ℤ◌, ◌≤ℤ◌, unsigned_abs, int_div}
use Rattle.std.specs.Int.{◌∣◌, IsGcd, int_signum}
use Rattle.std.proofs.lemmas.Int.{ints}
use Rattle.std.proofs.lemmas.Nat.Gcd.{le_of_dvd}
use Rattle.std.proofs.Math.IntN.{*ℤ_comm, *ℤ-zero}
use Rattle.std.proofs.Math.Nat.{pos_of_dvd_of_pos}
use Rattle.xm_rows.specs.Row.{Fits128}
use Rattle.xm_rows.specs.Combination.{AreFactors}
use Rattle.xm_rows.specs.Lemmas.Integers.{abs_positive, quotient_times, one_times, negated, times_negated, assoc, one_factor}

pub gcd_positive : (a b : ℤ) (g : ℕ) → b ≢ pos 0 → IsGcd (unsigned_abs a) (unsigned_abs b) g → 0 < g
gcd_positive a b g nonzero h = pos_of_dvd_of_pos h.1 (abs_positive b nonzero)

pub gcd_fits : (a b : ℤ) (g : ℕ) → b ≢ pos 0 → Fits128 b → IsGcd (unsigned_abs a) (unsigned_abs b) g → g < 2 ^ 127
gcd_fits a b g nonzero fits h = let below = le_of_dvd (abs_positive b nonzero) h.1 in omega (arith, below)

-- a number over a divisor, taken that often
back : (z d : ℤ) → pos 0 <ℤ d → unsigned_abs d ∣ unsigned_abs z → pos (unsigned_abs d) *ℤ int_div z d ≡ z
back z (pos g) positive h = *ℤ_comm (pos g) (int_div z (pos g)) ∙ quotient_times z (pos g) h
back z (negsuc g) positive h = absurd (omega (arith, ints))

abs_up : (b : ℤ) → pos 0 ≤ℤ b → b ≡ pos (unsigned_abs b)
abs_up (pos n) h = refl
abs_up (negsuc n) h = absurd (omega (arith, ints))

abs_down : (b : ℤ) → b <ℤ pos 0 → neg_ℤ b ≡ pos (unsigned_abs b)
abs_down (pos n) h = absurd (omega (arith, ints))
abs_down (negsuc n) h = refl

sign_up : (b a : ℤ) → b ≢ pos 0 → pos 0 ≤ℤ b → a ≡ int_signum b *ℤ a
sign_up (pos zero) a nonzero h = absurd (nonzero refl)
sign_up (pos (suc n)) a nonzero h =
    let one : min (suc n) 1 ≡ 1 = omega arith in
    sym (one_times a) ∙ ap (λ (k : ℕ). pos k *ℤ a) (sym one)
sign_up (negsuc n) a nonzero h = absurd (omega (arith, ints))

sign_down : (b a : ℤ) → b <ℤ pos 0 → neg_ℤ a ≡ int_signum b *ℤ a
sign_down (pos n) a h = absurd (omega (arith, ints))
sign_down (negsuc n) a h = let one = negated (pos 1) a in let same = one_times a in omega (arith, ints)

pub factors_up : (a b u v d : ℤ) → b ≢ pos 0 → pos 0 ≤ℤ b → pos 0 <ℤ d → IsGcd (unsigned_abs a) (unsigned_abs b) (unsigned_abs d) →
    u ≡ int_div b d → v ≡ int_div a d → AreFactors a b u v
factors_up a b u v d nonzero up positive h first second =
    let times = λ (z : ℤ). pos (unsigned_abs d) *ℤ z in
    record {
      divisor = unsigned_abs d;
      greatest = h;
      first = ap times first ∙ back b d positive h.1 ∙ abs_up b up;
      second = ap times second ∙ back a d positive h.0 ∙ sign_up b a nonzero up;
    }

pub factors_down : (a b u v x y d : ℤ) → b <ℤ pos 0 → pos 0 <ℤ d → IsGcd (unsigned_abs a) (unsigned_abs b) (unsigned_abs d) →
    x ≡ int_div b d → y ≡ int_div a d → u ≡ neg_ℤ x → v ≡ neg_ℤ y → AreFactors a b u v
factors_down a b u v x y d down positive h first second turned_x turned_y =
    let g = pos (unsigned_abs d) in
    let times = λ (z : ℤ). g *ℤ z in
    record {
      divisor = unsigned_abs d;
      greatest = h;
      first = ap times (turned_x ∙ ap neg_ℤ first) ∙ times_negated g (int_div b d) ∙ ap neg_ℤ (back b d positive h.1) ∙ abs_down b down;
      second = ap times (turned_y ∙ ap neg_ℤ second) ∙ times_negated g (int_div a d) ∙ ap neg_ℤ (back a d positive h.0) ∙ sign_down b a down;
    }

-- the divisor that the code computes is that of the numbers
pub gcd_of : (a b x y : ℤ) (m n g : ℕ) → m ≡ unsigned_abs x → x ≡ a → n ≡ unsigned_abs y → y ≡ b → IsGcd m n g → IsGcd (unsigned_abs a) (unsigned_abs b) g
gcd_of a b x y m n g first same_x second same_y h = rw (first, same_x, second, same_y) at h

-- ---- the column is gone

sign_abs : (b : ℤ) → int_signum b *ℤ b ≡ pos (unsigned_abs b)
sign_abs (pos zero) = *ℤ-zero (int_signum (pos zero))
sign_abs (pos (suc n)) = sym (sign_up (pos (suc n)) (pos (suc n)) (λ e. absurd (omega (arith, ints))) (omega (arith, ints)))
sign_abs (negsuc n) = sym (sign_down (negsuc n) (negsuc n) (omega (arith, ints)))

pub factors_cancel : (a b u v : ℤ) → b ≢ pos 0 → AreFactors a b u v → (u *ℤ a) -ℤ (v *ℤ b) ≡ pos 0
factors_cancel a b u v nonzero f =
    let g = pos f.divisor in
    let some = gcd_positive a b f.divisor nonzero f.greatest in
    let first = assoc g u a ∙ ap (λ (z : ℤ). z *ℤ a) f.first in
    let second = assoc g v b ∙ ap (λ (z : ℤ). z *ℤ b) f.second ∙ ap (λ (z : ℤ). z *ℤ b) (*ℤ_comm (int_signum b) a) ∙ sym (assoc a (int_signum b) b)
    ∙ ap (λ (z : ℤ). a *ℤ z) (sign_abs b) ∙ *ℤ_comm a (pos (unsigned_abs b)) in
    let same : g *ℤ (u *ℤ a) ≡ g *ℤ (v *ℤ b) = first ∙ sym second in
    let equal = one_factor g (u *ℤ a) (v *ℤ b) (λ e. absurd (omega (arith, ints))) same in
    omega (arith, ints)
