-- What an answer of the grammar has, and the answer where there are no options.
use Rattle.std.proofs.Common.{◌≡◌, ◌∙◌, ℕ, ◌≤◌, ◌&&◌, List, [], ◌∷◌, map, length, refl, ap, sym, subst, inl, inr, Option, Some, None}
use Rattle.std.specs.Prelude.{if◌then◌else◌, IfSome, nat_le, option_map, option_and_then, slice_get}
use Rattle.std.specs.List.{after_first, before_first, list_any}
use Rattle.std.proofs.lemmas.Bool.{and_parts, cases_Bool, leb-true}
use Rattle.std.proofs.lemmas.List.{length-map}
use Rattle.std.proofs.lemmas.Option.{same_Some, slice_get-map}
use Rattle.clap.specs.Walk.{Text}
use Rattle.xm_model.specs.ListView.{ListView}
use Rattle.xm_options.specs.Grammar.{AreWithin, Given, NoOptions, are_known, are_new, behind_dashes, decimal_of, given_from, is_equals, is_in_range, number_in, options_in, text_in, value_of, values_of}
use Rattle.xm_options.specs.declared.option.LongOption.{LongOption}
use Rattle.xm_options.proofs.Answer.{answer_is, answered, some_from}
use Rattle.xm_options.proofs.Given.{parts}
use Rattle.xm_options.proofs.Words.{given_behind}
use Rattle.xm_options.specs.Names.{name_of}

-- the values are those of the texts that are given
values_are : (options : List LongOption) (words : List Text) (values : List (Option ℕ)) (e : options_in options words ≡ Some values)
    → map (value_of (text_in (answered options words values e).given)) options ≡ values
values_are options words values e =
    let a = answered options words values e in
    let is : values_of (text_in a.given) options ≡ Some values = answer_is options words a.given a.are_given a.known a.new ∙ e in
    same_Some _ _ (some_from _ (Some (map (value_of (text_in a.given)) options)) values is).1

pub each : (options : List LongOption) (words : List Text) (answer : Option (ListView (Option ℕ))) → option_map (λ (values : ListView (Option ℕ)). values.items) answer ≡ options_in options words
    → IfSome answer (λ (values : ListView (Option ℕ)). length values.items ≡ length options)
each options words None e = tt
each options words (Some values) e =
    let is = values_are options words values.items (sym e) in
    ap length (sym is) ∙ length-map options (value_of (text_in (answered options words values.items (sym e)).given))

number_within : (option : LongOption) (o : Option Text) (number : ℕ) → option_and_then (number_in option) o ≡ Some number → (option.low ≤ number) × (number ≤ option.high)
number_within option None number e = absurd (cc)
number_within option (Some text) number e = go (decimal_of text) e
  where
    go : (d : Option ℕ) → option_and_then (λ n. if is_in_range option n then Some n else None) d ≡ Some number → (option.low ≤ number) × (number ≤ option.high)
    go None e = absurd (cc)
    go (Some n) e =
        let is = some_from (is_in_range option n) (Some n) number e in
        let both = and_parts (nat_le option.low n) (nat_le n option.high) is.0 in
        let same : n ≡ number = same_Some n number is.1 in
        (subst (λ k. option.low ≤ k) same (leb-true option.low n both.0), subst (λ k. k ≤ option.high) same (leb-true n option.high both.1))

pub within : (options : List LongOption) (words : List Text) (answer : Option (ListView (Option ℕ))) → option_map (λ (values : ListView (Option ℕ)). values.items) answer ≡ options_in options words
    → IfSome answer (λ (values : ListView (Option ℕ)). AreWithin options values.items)
within options words None e = tt
within options words (Some values) e = λ i option number at there.
    let texts = text_in (answered options words values.items (sym e)).given in
    let is = values_are options words values.items (sym e) in
    let value : Some (value_of texts option) ≡ Some (Some number) =
    sym (slice_get-map (value_of texts) options i ∙ ap (option_map (value_of texts)) at) ∙ ap (λ xs. slice_get xs i) is ∙ there in
    number_within option (texts (name_of option.name)) number (same_Some _ _ value)

-- ---- no options

text_given : (name : Text) (words : List Text) → given_from (Some name) words ≡ Some [] → ⊥
text_given name [] e = cc
text_given name (word ∷ rest) e = let none = (parts name word (given_from None rest) [] e).given_is in cc

some_given : (word : Text) (rest : List Text) → given_from None (word ∷ rest) ≡ Some [] → ⊥
some_given word rest e = go (behind_dashes word) e
  where
    go : (o : Option Text) → option_and_then (λ behind. given_behind behind rest) o ≡ Some [] → ⊥
    go None e = cc
    go (Some behind) e = elim (cases_Bool (list_any is_equals behind)) [
      | inl has ↦ let none = (parts (before_first is_equals behind) (after_first is_equals behind) (given_from None rest) [] (rw has at e)).given_is in cc
      | inr none ↦ text_given behind rest (rw none at e)
    ]

no_value : (word : Text) (rest : List Text) → options_in [] (word ∷ rest) ≡ None
unfolding options_in
no_value word rest = go (given_from None (word ∷ rest)) refl
  where
    go : (o : Option (List Given)) → given_from None (word ∷ rest) ≡ o
        → option_and_then (λ given. if are_known [] given && are_new [] given then values_of (text_in given) [] else None) o ≡ None
    go None e = refl
    go (Some []) e = absurd (some_given word rest e)
    go (Some (g ∷ gs)) e = refl

pub none_without_options : NoOptions
unfolding options_in
none_without_options = record { no_words = refl; a_word = no_value }
