-- What std's `parse` makes of a decimal text.
use Rattle.std.proofs.Common.{◌≡◌, ℕ, ◌<◌, ◌^◌, true, false, refl, sym, subst, arith, List, [], ◌∷◌, length, None, inl, inr}
use Rattle.std.specs.Char.{digit_value, is_ascii_digit}
use Rattle.std.specs.List.{list_all}
use Rattle.std.specs.Str.Parse.{AllDigits, IsNumeral, digits_value, without_leading_plus}
use Rattle.std.proofs.lemmas.Bool.{and_parts, cases_lt}
use Rattle.std.proofs.lemmas.Bool.Decides.{nat_tests}
use Rattle.xm_options.specs.Grammar.{is_in_range, number_in, starts_as_number}
use Rattle.xm_options.specs.declared.option.LongOption.{LongOption}

digit_below : (c : ℕ) → is_ascii_digit c ≡ true → digit_value c < 10
digit_below c h = grind (arith, nat_tests)

digit_no_plus : (c : ℕ) (cs : List ℕ) → is_ascii_digit c ≡ true → without_leading_plus (c ∷ cs) ≡ c ∷ cs
digit_no_plus c cs h = grind (arith, nat_tests)

digits : (cs : List ℕ) → list_all is_ascii_digit cs ≡ true → AllDigits 10 cs
digits [] h = tt
digits (c ∷ cs) h =
    let both = and_parts (is_ascii_digit c) (list_all is_ascii_digit cs) h in
    (digit_below c both.0, digits cs both.1)

no_plus : (cs : List ℕ) → list_all is_ascii_digit cs ≡ true → starts_as_number cs ≡ true → without_leading_plus cs ≡ cs
no_plus [] h starts = refl
no_plus (c ∷ cs) h starts = digit_no_plus c cs (and_parts (is_ascii_digit c) (list_all is_ascii_digit cs) h).0

pub numeral : (cs : List ℕ) → list_all is_ascii_digit cs ≡ true → starts_as_number cs ≡ true → IsNumeral 10 (without_leading_plus cs)
numeral [] h starts = cc
numeral (c ∷ cs) h starts =
    let there : 0 < length (c ∷ cs) = omega arith in
    subst (IsNumeral 10) (sym (no_plus (c ∷ cs) h starts)) (there, digits (c ∷ cs) h)

-- a decimal text that `parse` refuses is past the option's range
pub no_number : (option : LongOption) (text : List ℕ) → option.high < 2 ^ 64 → list_all is_ascii_digit text ≡ true → starts_as_number text ≡ true
    → ¬ (IsNumeral 10 (without_leading_plus text) × (digits_value 10 (without_leading_plus text) < 2 ^ 64)) → None ≡ number_in option text
no_number option text high h starts refused =
    let same = no_plus text h starts in
    elim (cases_lt (digits_value 10 text) (2 ^ 64)) [
      | inl small ↦ absurd (refused (numeral text h starts, rw same small))
      | inr large ↦
          let past : is_in_range option (digits_value 10 text) ≡ false = grind (arith, nat_tests) in
          rw (h, starts, past) refl
    ]
