-- How clap and the grammar cut a word.
use Rattle.std.proofs.Common.{◌≡◌, ◌∙◌, ◌+◌, arith, Bool, true, false, not, suc, List, [], ◌∷◌, take, refl, ap, sym, inl, inr, Option, Some, None}
use Rattle.std.specs.Prelude.{if◌then◌else◌, ◌==◌, option_and_then, option_map}
use Rattle.std.specs.List.{after_first, before_first, list_any, position_or_len}
use Rattle.std.proofs.lemmas.Bool.{cases_Bool, false_from_ne_true, not-true, or_parts}
use Rattle.std.proofs.lemmas.Option.{same_Some}
use Rattle.std.proofs.lemmas.Slice.Eq.{bytes_eq-Decides}
use Rattle.clap.specs.Lexer.{long_of, name_and_value, short_of}
use Rattle.clap.specs.Walk.{Text}
use Rattle.xm_options.specs.Grammar.{Given, behind_dashes, given_from, is_equals, more_given}
use Rattle.xm_options.specs.Inner.Words.{is_dashes}

long_is : (word : Text) → long_of word ≡ option_map name_and_value (behind_dashes word)
long_is [] = refl
long_is (a ∷ []) = elim (cases_Bool (a == 45)) [ inl first ↦ rw first refl | inr first ↦ rw first refl ]
long_is (a ∷ b ∷ []) = elim (cases_Bool (a == 45)) [
  | inl first ↦ elim (cases_Bool (b == 45)) [ inl second ↦ rw (first, second) refl | inr second ↦ rw (first, second) refl ]
  | inr first ↦ rw first refl
]
long_is (a ∷ b ∷ c ∷ rest) = elim (cases_Bool (a == 45)) [
  | inl first ↦ elim (cases_Bool (b == 45)) [ inl second ↦ rw (first, second) refl | inr second ↦ rw (first, second) refl ]
  | inr first ↦ rw first refl
]

before_all : (text : Text) → list_any is_equals text ≡ false → before_first is_equals text ≡ text
before_all [] none = refl
before_all (x ∷ xs) none =
    let apart = or_parts (is_equals x) (list_any is_equals xs) none in
    let next : 1 + position_or_len is_equals xs ≡ suc (position_or_len is_equals xs) = omega arith in
    rw apart.0 (ap (λ n. take n (x ∷ xs)) next ∙ ap (λ ys. x ∷ ys) (before_all xs apart.1))

-- what is given from a word on, by what follows its dashes
abbrev pub given_behind : Text → List Text → Option (List Given)
given_behind behind rest = if list_any is_equals behind
    then more_given (before_first is_equals behind) (after_first is_equals behind) (given_from None rest)
    else given_from (Some behind) rest

-- what is given from a word `--name` or `--name=text` on
abbrev pub next_given : Text → Option Text → List Text → Option (List Given)
next_given name None rest = given_from (Some name) rest
next_given name (Some text) rest = more_given name text (given_from None rest)

cut : (behind : Text) (rest : List Text) → given_behind behind rest ≡ next_given (name_and_value behind).0 (name_and_value behind).1 rest
cut behind rest = elim (cases_Bool (list_any is_equals behind)) [
  | inl has ↦ rw has refl
  | inr has ↦ rw (has, before_all behind has) refl
]

pub given_next : (word name : Text) (v : Option Text) (rest : List Text) → long_of word ≡ Some (name, v) → given_from None (word ∷ rest) ≡ next_given name v rest
given_next word name v rest long = go (behind_dashes word) (sym (long_is word) ∙ long)
  where
    go : (o : Option Text) → option_map name_and_value o ≡ Some (name, v) → option_and_then (λ behind. given_behind behind rest) o ≡ next_given name v rest
    go None e = cc
    go (Some behind) e = cut behind rest ∙ ap (λ (p : Text × Option Text). next_given p.0 p.1 rest) (same_Some _ _ e)

pub given_none : (word : Text) (rest : List Text) → long_of word ≡ None → given_from None (word ∷ rest) ≡ None
given_none word rest long = go (behind_dashes word) (sym (long_is word) ∙ long)
  where
    go : (o : Option Text) → option_map name_and_value o ≡ None → option_and_then (λ behind. given_behind behind rest) o ≡ None
    go None e = refl
    go (Some behind) e = cc

-- a word with a name is not the two dashes
pub whole_with_name : (word name : Text) (v : Option Text) → long_of word ≡ Some (name, v) → is_dashes word ≡ false
whole_with_name word name v long = false_from_ne_true (is_dashes word) (λ dashes.
    let same : word ≡ 45 ∷ 45 ∷ [] = (bytes_eq-Decides word (45 ∷ 45 ∷ [])).0 dashes in
    let none : long_of word ≡ None = ap long_of same in
    cc)

-- the text does not begin with a dash
abbrev pub is_undashed : Text → Bool
is_undashed [] = true
is_undashed (x ∷ xs) = not (x == 45)

pub undashed : (word : Text) → is_undashed word ≡ true → (is_dashes word ≡ false) × ((long_of word ≡ None) × (short_of word ≡ None))
undashed [] h = (refl, (refl, refl))
undashed (x ∷ xs) h = let apart = not-true (x == 45) h in rw apart (refl, (refl, refl))
