-- Lemmas: decimal texts of 128 bits.
use Rattle.std.proofs.Common.{◌≡◌, ◌<◌, ◌^◌, ℕ, suc, Bool, true, false, List, ◌∷◌, Some, None, Result, Ok, Err, refl, ap, subst, sym, ◌∙◌, arith, pos, negsuc, ℤ, ltb-true}
use Rattle.std.specs.Prelude.{unsigned_abs, neg_ℤ, if◌then◌else◌, ◌&&◌}
use Rattle.std.specs.Fmt.{decimal, signed_decimal}
use Rattle.std.specs.Str.{bytes_eq}
use Rattle.std.specs.Str.Parse.{ParsesSigned, signed_digits_value}
use Rattle.std.proofs.lemmas.Bool.{and_parts}
use Rattle.std.proofs.lemmas.Slice.Eq.{bytes_eq-Decides}
use Rattle.std.proofs.lemmas.Result.{Ok-from_Ok_iff}
use Rattle.std.proofs.lemmas.Fmt.{decimal_is_IsNumeral_wide}
use Rattle.std.proofs.lemmas.Str.Parse.{numerals_by_value, tells_digits, parse_signed_digits, parse_signed_minus}
use Rattle.xm_proof.specs.Sums.{fits128}
use Rattle.xm_proof_reader.specs.Numbers.{number_of}
use mir.Syntax.{w128}

pub parse_wide : {E : Type 0} (z : ℤ) (bs : List ℕ) (r : Result ℤ E) → unsigned_abs z < 2 ^ 127 → bs ≡ signed_decimal z → ParsesSigned w128 10 bs r → r ≡ Ok z
parse_wide (pos n) bs r small is h =
    let k = decimal_is_IsNumeral_wide n (omega arith) in
    let read = parse_signed_digits (numerals_by_value _ tells_digits) w128 (decimal n) r (subst (λ l. ParsesSigned w128 10 l r) is h) k.0.1 in
    Ok-from_Ok_iff r _ _ read (k.0.0, omega (arith, k.1)) ∙ ap (λ m. Ok (pos m)) k.1
parse_wide (negsuc n) bs r small is h =
    let k = decimal_is_IsNumeral_wide (suc n) (omega arith) in
    let read = parse_signed_minus (numerals_by_value _ tells_digits) w128 (45 ∷ decimal (suc n)) r (subst (λ l. ParsesSigned w128 10 l r) is h) refl in
    Ok-from_Ok_iff r _ _ read (k.0.1, k.0.0, omega (arith, k.1)) ∙ ap (λ m. Ok (neg_ℤ (pos m))) k.1

-- where the test is never passed, nothing is found
never : (b : Bool) (v : ℤ) → (b ≡ true → ⊥) → (if b then Some v else None) ≡ None
never true v fails = absurd (fails refl)
never false v fails = refl

apart : {E : Type 0} (e : E) (z : ℤ) (r : Result ℤ E) → r ≡ Err e → r ≡ Ok z → ⊥
apart e z r p q = cc

refused : {E : Type 0} (bs : List ℕ) (r : Result ℤ E) (e : E) → r ≡ Err e → ParsesSigned w128 10 bs r
    → (fits128 (signed_digits_value 10 bs) && bytes_eq (signed_decimal (signed_digits_value 10 bs)) bs) ≡ true → ⊥
refused bs r e is h passed =
    let tests = and_parts (fits128 (signed_digits_value 10 bs)) (bytes_eq (signed_decimal (signed_digits_value 10 bs)) bs) passed in
    let small : unsigned_abs (signed_digits_value 10 bs) < 2 ^ 127 = ltb-true _ _ tests.0 in
    apart e (signed_digits_value 10 bs) r is (parse_wide (signed_digits_value 10 bs) bs r small (sym ((bytes_eq-Decides (signed_decimal (signed_digits_value 10 bs)) bs).0 tests.1)) h)

-- a text that is not parsed is no number
pub unparsed : {E : Type 0} (bs : List ℕ) (r : Result ℤ E) (e : E) → r ≡ Err e → ParsesSigned w128 10 bs r → number_of bs ≡ None
unfolding number_of
unparsed bs r e is h = never (fits128 (signed_digits_value 10 bs) && bytes_eq (signed_decimal (signed_digits_value 10 bs)) bs) (signed_digits_value 10 bs) (refused bs r e is h)

-- one that is parsed is tested
pub parsed : (bs : List ℕ) (n : ℤ) → n ≡ signed_digits_value 10 bs → number_of bs ≡ (if fits128 n && bytes_eq (signed_decimal n) bs then Some n else None)
unfolding number_of
parsed bs n is = rw is refl
