-- What it takes that the grammar has an answer, and which words it then has.
use Rattle.std.proofs.Common.{◌≡◌, ◌∙◌, ℕ, ◌&&◌, Bool, true, false, cond, List, [], ◌∷◌, ◌++◌, refl, ap, sym, arith, inl, inr, Option, Some, None, append_assoc}
use Rattle.std.specs.Prelude.{if◌then◌else◌, not, ◌==◌, is_some, option_and_then}
use Rattle.std.specs.Char.{is_ascii_digit}
use Rattle.std.specs.List.{list_all, list_any}
use Rattle.std.specs.Option.{option_map_or}
use Rattle.std.specs.Str.{bytes_eq}
use Rattle.std.proofs.lemmas.Bool.{and_from, and_parts, cases_Bool, not-true, or_parts}
use Rattle.std.proofs.lemmas.Bool.Decides.{nat_tests}
use Rattle.std.proofs.lemmas.Slice.Eq.{bytes_eq-Decides}
use Rattle.clap.specs.Faults.{fault_of}
use Rattle.clap.specs.Simple.{matches_of}
use Rattle.clap.specs.Walk.{Text, first_of}
use Rattle.xm_options.specs.Inner.Command.{command_with}
use Rattle.xm_options.specs.Grammar.{Given, are_known, are_new, given_from, is_among, is_decimal, is_fitting, is_known, number_in, options_in, starts_as_number, text_in, values_of}
use Rattle.xm_options.specs.Inner.Words.{is_dashes}
use Rattle.xm_options.specs.declared.option.LongOption.{LongOption}
use Rattle.xm_options.proofs.Given.{are_undashed}
use Rattle.xm_options.proofs.Law.{is_taken, takes_given}
use Rattle.xm_options.proofs.Uses.{first_in_rows}
use Rattle.xm_options.proofs.Words.{is_undashed}
use Rattle.xm_options.specs.Names.{name_of}

-- ---- an answer comes of names with texts that fit

pub record IsAnswered (options : List LongOption) (words : List Text) : Type 0 where
  pub given : List Given
  pub are_given : given_from None words ≡ Some given
  pub known : are_known options given ≡ true
  pub new : are_new [] given ≡ true
  pub fitting : list_all (is_fitting (text_in given)) options ≡ true

pub some_from : {A : Type 0} (b : Bool) (x : Option A) (y : A) → cond b x None ≡ Some y → (b ≡ true) × (x ≡ Some y)
some_from true x y e = (refl, e)
some_from false x y e = absurd (cc)

pub answered : (options : List LongOption) (words : List Text) (values : List (Option ℕ)) → options_in options words ≡ Some values → IsAnswered options words
unfolding options_in
answered options words values e = go (given_from None words) refl e
  where
    go : (from : Option (List Given)) → given_from None words ≡ from
        → option_and_then (λ given. if are_known options given && are_new [] given then values_of (text_in given) options else None) from ≡ Some values → IsAnswered options words
    go None is e = absurd (cc)
    go (Some given) is e =
        let passes = some_from (are_known options given && are_new [] given) _ values e in
        let both = and_parts (are_known options given) (are_new [] given) passes.0 in
        record {
          given = given;
          are_given = is;
          known = both.0;
          new = both.1;
          fitting = (some_from (list_all (is_fitting (text_in given)) options) _ values passes.1).0;
        }

-- ---- each text that is given is decimal

-- the text of a name that does not stand before
text_at : (before rest : List Given) (g : Given) → is_among g.0 before ≡ false → text_in (before ++ g ∷ rest) g.0 ≡ Some g.1
text_at [] rest g new = let same : bytes_eq g.0 g.0 ≡ true = (bytes_eq-Decides g.0 g.0).1 refl in rw same refl
text_at (b ∷ before) rest g new =
    let apart = or_parts (bytes_eq b.0 g.0) (is_among g.0 before) new in
    rw apart.0 (text_at before rest g apart.1)

decimal_from : (option : LongOption) (text : Text) → is_some (number_in option text) ≡ true → is_decimal text ≡ true
decimal_from option text some = elim (cases_Bool (is_decimal text)) [
  | inl decimal ↦ decimal
  | inr other ↦
      let none : number_in option text ≡ None = rw other refl in
      let bad : false ≡ true = ap is_some (sym none) ∙ some in
      cc
]

fits_decimal : (texts : Text → Option Text) (options : List LongOption) (name text : Text) → is_known options name ≡ true → list_all (is_fitting texts) options ≡ true → texts name ≡ Some text
    → is_decimal text ≡ true
fits_decimal texts [] name text known fitting is = cc
fits_decimal texts (o ∷ os) name text known fitting is =
    let fit = and_parts (is_fitting texts o) (list_all (is_fitting texts) os) fitting in
    elim (cases_Bool (bytes_eq (name_of o.name) name)) [
      | inl same ↦
          let there : texts (name_of o.name) ≡ Some text = ap texts ((bytes_eq-Decides (name_of o.name) name).0 same) ∙ is in
          decimal_from o text (ap (λ (x : Option Text). option_map_or (λ t. is_some (number_in o t)) x (not o.wanted)) (sym there) ∙ fit.0)
      | inr other ↦ fits_decimal texts os name text (rw other at known) fit.1 is
    ]

abbrev pub are_decimal : List Given → Bool
are_decimal given = list_all (λ g. is_decimal g.1) given

all_decimal : (options : List LongOption) (before rest given : List Given) → before ++ rest ≡ given → are_known options rest ≡ true → are_new before rest ≡ true
    → list_all (is_fitting (text_in given)) options ≡ true → are_decimal rest ≡ true
all_decimal options before [] given is known new fitting = refl
all_decimal options before (g ∷ rest) given is known new fitting =
    let known_parts = and_parts (is_known options g.0) (are_known options rest) known in
    let new_parts = and_parts (not (is_among g.0 before)) (are_new (before ++ g ∷ []) rest) new in
    let at : text_in given g.0 ≡ Some g.1 = ap (λ x. text_in x g.0) (sym is) ∙ text_at before rest g (not-true (is_among g.0 before) new_parts.0) in
    let here = fits_decimal (text_in given) options g.0 g.1 known_parts.0 fitting at in
    and_from (is_decimal g.1) (are_decimal rest) here (all_decimal options (before ++ g ∷ []) rest given (append_assoc before (g ∷ []) rest ∙ is) known_parts.1 new_parts.1 fitting)

pub decimal : (options : List LongOption) (words : List Text) (a : IsAnswered options words) → are_decimal a.given ≡ true
decimal options words a = all_decimal options [] a.given a.given refl a.known a.new a.fitting

no_dash : (x : ℕ) → is_ascii_digit x ≡ true → not (x == 45) ≡ true
no_dash x digit = grind (arith, nat_tests)

pub undashed_from : (text : Text) → is_decimal text ≡ true → is_undashed text ≡ true
undashed_from [] decimal = refl
undashed_from (x ∷ xs) decimal =
    let digits = and_parts (list_all is_ascii_digit (x ∷ xs)) (starts_as_number (x ∷ xs)) decimal in
    let digit = and_parts (is_ascii_digit x) (list_all is_ascii_digit xs) digits.0 in
    no_dash x digit.0

all_undashed : (given : List Given) → are_decimal given ≡ true → are_undashed given ≡ true
all_undashed [] decimal = refl
all_undashed (g ∷ rest) decimal =
    let parts = and_parts (is_decimal g.1) (are_decimal rest) decimal in
    and_from (is_undashed g.1) (are_undashed rest) (undashed_from g.1 parts.0) (all_undashed rest parts.1)

-- ---- what clap takes, and what the grammar answers

pub answers_taken : (options : List LongOption) (words : List Text) (values : List (Option ℕ)) → options_in options words ≡ Some values → fault_of (command_with options) words ≡ []
answers_taken options words values e =
    let a = answered options words values e in
    takes_given options words a.given a.are_given a.known a.new (all_undashed a.given (decimal options words a))

-- words that clap refuses have no answer
pub refused_none : (options : List LongOption) (words : List Text) → ¬ (fault_of (command_with options) words ≡ []) → None ≡ options_in options words
refused_none options words refused = go (options_in options words) refl
  where
    go : (o : Option (List (Option ℕ))) → options_in options words ≡ o → None ≡ o
    go None e = refl
    go (Some values) e = absurd (refused (answers_taken options words values e))

pub answer_is : (options : List LongOption) (words : List Text) (given : List Given) → given_from None words ≡ Some given → are_known options given ≡ true → are_new [] given ≡ true
    → values_of (text_in given) options ≡ options_in options words
unfolding options_in
answer_is options words given is known new = rw (is, known, new) refl

-- of words that clap takes, the answer is what the texts that it found give
pub taken_values : (options : List LongOption) (words : List Text) (texts : Text → Option Text) → list_any is_dashes words ≡ false → fault_of (command_with options) words ≡ []
    → ((name : Text) → texts name ≡ first_of name (matches_of (command_with options) words)) → values_of texts options ≡ options_in options words
taken_values options words texts none passes found =
    let t = is_taken options words none passes in
    let same : texts ≡ text_in t.given = λ i name. (found name ∙ ap (first_of name) t.rows ∙ first_in_rows name t.given) i in
    ap (λ f. values_of f options) same ∙ answer_is options words t.given t.are_given t.known t.new
