-- Words that the grammar answers are texts, and none is two dashes alone.
use Rattle.std.proofs.Common.{◌≡◌, ◌∙◌, ℕ, ◌+◌, ◌&&◌, Bool, true, false, zero, suc, List, [], ◌∷◌, take, drop, refl, ap, sym, arith, inl, inr, Option, Some, None, eqb-true, ltb-true, lit<}
use Rattle.std.specs.Prelude.{not, ◌==◌, nat_lt, length, option_and_then}
use Rattle.std.specs.Char.{is_ascii_digit, is_ascii_lowercase}
use Rattle.std.specs.List.{after_first, before_first, list_all, list_any, position_or_len}
use Rattle.std.specs.Str.{IsAscii, IsUtf8, bytes_eq, is_utf8}
use Rattle.std.proofs.lemmas.Bool.{and_from, and_left, and_parts, cases_Bool, false_from_ne_true, not-true, or_from}
use Rattle.std.proofs.lemmas.Bool.Decides.{nat_tests}
use Rattle.std.proofs.lemmas.List.Folds.{list_all-map}
use Rattle.std.proofs.lemmas.Slice.Eq.{bytes_eq-Decides}
use Rattle.std.proofs.lemmas.Str.{IsUtf8-from_ascii, IsUtf8-from_is_utf8, is_utf8-from_IsUtf8}
use Rattle.clap.specs.Walk.{Text}
use Rattle.xm_model.specs.ListView.{ListView}
use Rattle.xm_model.specs.Naming.{texts_of}
use Rattle.xm_options.specs.Grammar.{Given, are_known, behind_dashes, given_from, is_decimal, is_equals, is_known, options_in, starts_as_number}
use Rattle.xm_options.specs.Inner.Words.{is_dashes, is_plain}
use Rattle.xm_options.specs.declared.option.LongOption.{LongOption}
use Rattle.xm_options.proofs.Answer.{answered, are_decimal, decimal, some_from, undashed_from}
use Rattle.xm_options.proofs.Given.{parts, waiting_known}
use Rattle.xm_options.proofs.Words.{given_behind, undashed}
use Rattle.xm_options.specs.Names.{name_of}
use Rattle.xm_options.specs.declared.option.OptionName.{OptionName}
use Rattle.xm_options.specs.declared.option.OptionName.TheVariants.{Budget, Parts, Seed, Size, Watch, Workers}

pub plain_text : (word : Text) → IsUtf8 word → is_dashes word ≡ false → is_plain word ≡ true
plain_text word utf8 whole = rw (is_utf8-from_IsUtf8 word utf8, whole) refl

pub not_text : (word : Text) → ¬ (IsUtf8 word) → is_plain word ≡ false
not_text word none = and_left (is_utf8 word) _ (false_from_ne_true (is_utf8 word) (λ utf8. none (IsUtf8-from_is_utf8 word utf8)))

pub no_dashes : (words : List (ListView ℕ)) → list_all (λ word. is_plain word.items) words ≡ true → list_any is_dashes (texts_of words) ≡ false
no_dashes [] plain = refl
no_dashes (word ∷ rest) plain =
    let both = and_parts (is_plain word.items) (list_all (λ (w : ListView ℕ). is_plain w.items) rest) plain in
    let here = not-true (is_dashes word.items) (and_parts (is_utf8 word.items) (not (is_dashes word.items)) both.0).1 in
    or_from (is_dashes word.items) _ here (no_dashes rest both.1)

-- ---- ASCII

abbrev is_ascii : Text → Bool
is_ascii text = list_all (λ byte. nat_lt byte 128) text

ascii_bytes : (text : Text) → is_ascii text ≡ true → IsAscii text
ascii_bytes [] ascii i = lit< tt
ascii_bytes (x ∷ xs) ascii zero = ltb-true x 128 (and_parts (nat_lt x 128) (is_ascii xs) ascii).0
ascii_bytes (x ∷ xs) ascii (suc i) = ascii_bytes xs (and_parts (nat_lt x 128) (is_ascii xs) ascii).1 i

plain_ascii : (word : Text) → is_ascii word ≡ true → is_dashes word ≡ false → is_plain word ≡ true
plain_ascii word ascii whole = plain_text word (IsUtf8-from_ascii word (ascii_bytes word ascii)) whole

all_weaker : (p q : ℕ → Bool) → ((x : ℕ) → p x ≡ true → q x ≡ true) → (xs : List ℕ) → list_all p xs ≡ true → list_all q xs ≡ true
all_weaker p q weaker [] h = refl
all_weaker p q weaker (x ∷ xs) h = let both = and_parts (p x) (list_all p xs) h in and_from (q x) (list_all q xs) (weaker x both.0) (all_weaker p q weaker xs both.1)

digit_ascii : (x : ℕ) → is_ascii_digit x ≡ true → nat_lt x 128 ≡ true
digit_ascii x h = grind (arith, nat_tests)

letter_ascii : (x : ℕ) → is_ascii_lowercase x ≡ true → nat_lt x 128 ≡ true
letter_ascii x h = grind (arith, nat_tests)

decimal_ascii : (text : Text) → is_decimal text ≡ true → is_ascii text ≡ true
decimal_ascii text h = all_weaker is_ascii_digit (λ x. nat_lt x 128) digit_ascii text (and_parts (list_all is_ascii_digit text) (starts_as_number text) h).0

decimal_whole : (text : Text) → is_decimal text ≡ true → is_dashes text ≡ false
decimal_whole text h = (undashed text (undashed_from text h)).0

-- a name of an option is a text
each_ascii : (name : OptionName) → is_ascii (name_of name) ≡ true
each_ascii Budget = refl
each_ascii Parts = refl
each_ascii Seed = refl
each_ascii Size = refl
each_ascii Watch = refl
each_ascii Workers = refl

name_ascii : (options : List LongOption) (name : Text) → is_known options name ≡ true → is_ascii name ≡ true
name_ascii [] name known = cc
name_ascii (o ∷ os) name known = elim (cases_Bool (bytes_eq (name_of o.name) name)) [
  | inl same ↦ ap is_ascii (sym ((bytes_eq-Decides (name_of o.name) name).0 same)) ∙ each_ascii o.name
  | inr other ↦ name_ascii os name (rw other at known)
]

-- ---- a word in parts

word_is : (word behind : Text) → behind_dashes word ≡ Some behind → word ≡ 45 ∷ 45 ∷ behind
word_is [] behind e = absurd (cc)
word_is (a ∷ []) behind e = absurd (cc)
word_is (a ∷ b ∷ []) behind e = absurd (cc)
word_is (a ∷ b ∷ c ∷ rest) behind e =
    let is = some_from (a == 45 && b == 45) (Some (c ∷ rest)) behind e in
    let dashes = and_parts (a == 45) (b == 45) is.0 in
    let first = eqb-true a 45 dashes.0 in
    let second = eqb-true b 45 dashes.1 in
    let behind_is = is.1 in
    cc

behind_whole : (word behind : Text) → behind_dashes word ≡ Some behind → is_dashes word ≡ false
behind_whole word behind e = false_from_ne_true (is_dashes word) (λ dashes.
    let same : word ≡ 45 ∷ 45 ∷ [] = (bytes_eq-Decides word (45 ∷ 45 ∷ [])).0 dashes in
    let none : behind_dashes word ≡ None = ap behind_dashes same in
    cc)

-- what holds of the bytes before and after the first `=`, and of `=`, holds of all
joined : (p : ℕ → Bool) (xs : List ℕ) → p 61 ≡ true → list_all p (before_first is_equals xs) ≡ true → list_all p (after_first is_equals xs) ≡ true → list_all p xs ≡ true
joined p [] equals before after = refl
joined p (x ∷ xs) equals before after = elim (cases_Bool (is_equals x)) [
  | inl here ↦ and_from (p x) (list_all p xs) (ap p (eqb-true x 61 here) ∙ equals) (rw here at after)
  | inr other ↦
      let n = position_or_len is_equals xs in
      let next : 1 + n ≡ suc n = omega arith in
      let after_next : 1 + n + 1 ≡ suc (n + 1) = omega arith in
      let front : before_first is_equals (x ∷ xs) ≡ x ∷ before_first is_equals xs = rw other (ap (λ k. take k (x ∷ xs)) next) in
      let back : after_first is_equals (x ∷ xs) ≡ after_first is_equals xs = rw other (ap (λ k. drop k (x ∷ xs)) after_next) in
      let both = and_parts (p x) (list_all p (before_first is_equals xs)) (ap (list_all p) (sym front) ∙ before) in
      and_from (p x) (list_all p xs) both.0 (joined p xs equals both.1 (ap (list_all p) (sym back) ∙ after))
]

-- ---- the words

module _ (options : List LongOption) where
  -- the claim
  abbrev ArePlain : List Text → Type 0
  ArePlain words = (waiting : Option Text) (given : List Given) → given_from waiting words ≡ Some given → are_known options given ≡ true → are_decimal given ≡ true
      → list_all is_plain words ≡ true

  plain_name : (word behind : Text) → behind_dashes word ≡ Some behind → is_ascii behind ≡ true → is_plain word ≡ true
  plain_name word behind e ascii = plain_ascii word (ap is_ascii (word_is word behind e) ∙ ascii) (behind_whole word behind e)

  option_plain : (word behind : Text) (rest : List Text) (given : List Given) → ArePlain rest → behind_dashes word ≡ Some behind → given_behind behind rest ≡ Some given
      → are_known options given ≡ true → are_decimal given ≡ true → list_all is_plain (word ∷ rest) ≡ true
  option_plain word behind rest given more e is known numbers = elim (cases_Bool (list_any is_equals behind)) [
    | inl has ↦
        let name = before_first is_equals behind in
        let text = after_first is_equals behind in
        let p = parts name text (given_from None rest) given (rw has at is) in
        let known_parts = and_parts (is_known options name) (are_known options p.rest) (ap (are_known options) (sym p.given_is) ∙ known) in
        let number_parts = and_parts (is_decimal text) (are_decimal p.rest) (ap are_decimal (sym p.given_is) ∙ numbers) in
        let ascii = joined (λ byte. nat_lt byte 128) behind refl (name_ascii options name known_parts.0) (decimal_ascii text number_parts.0) in
        and_from (is_plain word) (list_all is_plain rest) (plain_name word behind e ascii) (more None p.rest p.from_is known_parts.1 number_parts.1)
    | inr none ↦
        let waits : given_from (Some behind) rest ≡ Some given = rw none at is in
        let ascii = name_ascii options behind (waiting_known options given behind rest waits known) in
        and_from (is_plain word) (list_all is_plain rest) (plain_name word behind e ascii) (more (Some behind) given waits known numbers)
  ]

  text_plain : (name word : Text) (rest : List Text) (given : List Given) → ArePlain rest → given_from (Some name) (word ∷ rest) ≡ Some given
      → are_known options given ≡ true → are_decimal given ≡ true → list_all is_plain (word ∷ rest) ≡ true
  text_plain name word rest given more is known numbers =
      let p = parts name word (given_from None rest) given is in
      let known_parts = and_parts (is_known options name) (are_known options p.rest) (ap (are_known options) (sym p.given_is) ∙ known) in
      let number_parts = and_parts (is_decimal word) (are_decimal p.rest) (ap are_decimal (sym p.given_is) ∙ numbers) in
      and_from (is_plain word) (list_all is_plain rest) (plain_ascii word (decimal_ascii word number_parts.0) (decimal_whole word number_parts.0))
      (more None p.rest p.from_is known_parts.1 number_parts.1)

  word_plain : (word : Text) (rest : List Text) → ArePlain rest → ArePlain (word ∷ rest)
  word_plain word rest more (Some name) given is known numbers = text_plain name word rest given more is known numbers
  word_plain word rest more None given is known numbers = go (behind_dashes word) refl is
    where
      go : (o : Option Text) → behind_dashes word ≡ o → option_and_then (λ behind. given_behind behind rest) o ≡ Some given → list_all is_plain (word ∷ rest) ≡ true
      go None e from = cc
      go (Some behind) e from = option_plain word behind rest given more e from known numbers

  all_plain : (words : List Text) → ArePlain words
  all_plain [] waiting given is known numbers = refl
  all_plain (word ∷ rest) waiting given is known numbers = word_plain word rest (all_plain rest) waiting given is known numbers

  -- words that clap may not be given have no answer
  pub not_plain_none : (words : List (ListView ℕ)) → list_all (λ word. is_plain word.items) words ≡ false → None ≡ options_in options (texts_of words)
  not_plain_none words plain = go (options_in options (texts_of words)) refl
    where
      go : (o : Option (List (Option ℕ))) → options_in options (texts_of words) ≡ o → None ≡ o
      go None e = refl
      go (Some values) e =
          let a = answered options (texts_of words) values e in
          let all : list_all is_plain (texts_of words) ≡ true = all_plain (texts_of words) None a.given a.are_given a.known (decimal options (texts_of words) a) in
          let same = list_all-map is_plain (λ (word : ListView ℕ). word.items) words in
          absurd (cc)
