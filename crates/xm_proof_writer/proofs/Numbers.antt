-- Lemmas: numbers that are written are read again.
use Rattle.std.proofs.Common.{◌≡◌, ◌^◌, ℕ, suc, List, [], ◌∷◌, true, Some, None, Ok, ℤ, pos, negsuc, neg_ℤ, refl, sym, ap, subst, ◌∙◌, arith}
use Rattle.std.specs.Prelude.{◌&&◌, decimal, if◌then◌else◌, unsigned_abs}
use Rattle.std.specs.Fmt.{signed_decimal}
use Rattle.std.specs.Str.{bytes_eq}
use Rattle.std.specs.Str.Parse.{IsNumeral, digits_value, signed_digits_value}
use Rattle.std.proofs.lemmas.Bool.{le-leb, lt-ltb, ne_eqb}
use Rattle.std.proofs.lemmas.Fmt.{decimal_is_IsNumeral_wide}
use Rattle.std.proofs.lemmas.Str.Parse.{digit_from_value}
use Rattle.xm_json.specs.Path.{Path}
use Rattle.xm_json.specs.Values.{small_number_at}
use Rattle.xm_proof.specs.Sums.{fits128}
use Rattle.xm_proof_reader.specs.Numbers.{number_of}
use Rattle.xm_proof_reader.specs.Reading.{most_places, number_at}
use Rattle.xm_proof.specs.OfNet.{IsPlace}
use Rattle.xm_proof_writer.specs.Writing.{number_data, place_data}
use Rattle.xm_rows.specs.Row.{Fits128}
use Rattle.xm_shape.specs.Lemmas.Equal.{same_bytes}

-- digits have no sign
without_sign : (ds : List ℕ) → IsNumeral 10 ds → signed_digits_value 10 ds ≡ pos (digits_value 10 ds)
without_sign [] is = absurd (omega (arith, is.0))
without_sign (c ∷ cs) is =
    let range = digit_from_value c is.1.0 in
    rw (ne_eqb c 45 (λ e. omega arith), ne_eqb c 43 (λ e. omega arith)) refl

value_again : (n : ℤ) → Fits128 n → signed_digits_value 10 (signed_decimal n) ≡ n
value_again (pos n) fits =
    let k = decimal_is_IsNumeral_wide n (omega arith) in
    without_sign (decimal n) k.0 ∙ ap (λ m. pos m) k.1
value_again (negsuc n) fits = let k = decimal_is_IsNumeral_wide (suc n) (omega arith) in ap (λ m. neg_ℤ (pos m)) k.1

fits_again : (n : ℤ) → Fits128 n → fits128 n ≡ true
fits_again n fits = lt-ltb (unsigned_abs n) (2 ^ 127) fits

passed : (n : ℤ) → Fits128 n → (if fits128 n && bytes_eq (signed_decimal n) (signed_decimal n) then Some n else None) ≡ Some n
passed n fits = rw (fits_again n fits, same_bytes (signed_decimal n)) refl

text_again : (n : ℤ) → Fits128 n → number_of (signed_decimal n) ≡ Some n
unfolding number_of
text_again n fits =
    let Is : ℤ → Type 0 = λ m. (if fits128 m && bytes_eq (signed_decimal m) (signed_decimal n) then Some m else None) ≡ Some n in
    subst Is (sym (value_again n fits)) (passed n fits)

pub number_again : (path : Path) (n : ℤ) → Fits128 n → number_at path (number_data n) ≡ Ok n
number_again path n fits = rw (text_again n fits) refl

pub place_again : (path : Path) (n : ℕ) → IsPlace n → small_number_at most_places path (place_data n) ≡ Ok n
place_again path n is = rw (le-leb n most_places (omega arith)) refl
