-- The grammar of the words behind a command: options `--name value` or `--name=value` in any order, each at most
-- once and those that are wanted once, where a value is a decimal number in the option's range.
use Rattle.std.specs.Prelude.{◌≡◌, ℕ, ◌≤◌, slice_get, ◌==◌, ◌&&◌, ◌++◌, Bool, true, false, not, List, [], ◌∷◌, map, find, nat_le, nat_lt, length, if◌then◌else◌}
use Rattle.std.specs.Prelude.{Option, Some, None, is_some, option_map, option_and_then}
use Rattle.std.specs.Char.{is_ascii_digit, is_ascii_lowercase}
use Rattle.std.specs.List.{after_first, before_first, list_all, list_any}
use Rattle.std.specs.Option.{option_map_or}
use Rattle.std.specs.Str.{bytes_eq}
use Rattle.std.specs.Str.Parse.{digits_value}
use Rattle.xm_options.specs.declared.option.LongOption.{LongOption}
use Rattle.xm_options.specs.Names.{name_of}

-- ---- a value

-- the text is not empty, and has no zero (48) before another digit
abbrev pub starts_as_number : List ℕ → Bool
starts_as_number [] = false
starts_as_number (only ∷ []) = true
starts_as_number (first ∷ next ∷ rest) = not (first == 48)

-- digits alone, at least one, without leading zeros
abbrev pub is_decimal : List ℕ → Bool
is_decimal text = list_all is_ascii_digit text && starts_as_number text

-- the number that a decimal text is
abbrev pub decimal_of : List ℕ → Option ℕ
decimal_of text = if is_decimal text then Some (digits_value 10 text) else None

abbrev pub is_in_range : LongOption → ℕ → Bool
is_in_range option number = nat_le option.low number && nat_le number option.high

-- the number, where it lies in the option's range
abbrev pub number_in : LongOption → List ℕ → Option ℕ
number_in option text =
    option_and_then (λ number. if is_in_range option number then Some number else None) (decimal_of text)

-- ---- the words

-- a name, and the text of its value
abbrev pub Given : Type 0
Given = List ℕ × List ℕ

-- what follows the two dashes (45) of a word, where something does
abbrev pub behind_dashes : List ℕ → Option (List ℕ)
behind_dashes (a ∷ b ∷ c ∷ rest) = if a == 45 && b == 45 then Some (c ∷ rest) else None
behind_dashes _ = None

abbrev pub is_equals : ℕ → Bool
is_equals byte = byte == 61

abbrev pub more_given : List ℕ → List ℕ → Option (List Given) → Option (List Given)
more_given name text = option_map (λ given. (name, text) ∷ given)

-- The words cut into names and texts: `--name=text` is both in one word, and behind `--name` the next word is the
-- text, whatever it is. A name that waits for its text comes first.
abbrev pub given_from : Option (List ℕ) → List (List ℕ) → Option (List Given)
given_from None [] = Some []
given_from (Some name) [] = None
given_from (Some name) (word ∷ rest) = more_given name word (given_from None rest)
given_from None (word ∷ rest) = option_and_then (λ option. if list_any is_equals option
    then more_given (before_first is_equals option) (after_first is_equals option) (given_from None rest)
    else given_from (Some option) rest) (behind_dashes word)

-- the name is that of an option
abbrev pub is_known : List LongOption → List ℕ → Bool
is_known options name = list_any (λ option. bytes_eq (name_of option.name) name) options

abbrev pub are_known : List LongOption → List Given → Bool
are_known options given = list_all (λ g. is_known options g.0) given

abbrev pub is_among : List ℕ → List Given → Bool
is_among name given = list_any (λ g. bytes_eq g.0 name) given

-- no name stands among those before it
abbrev pub are_new : List Given → List Given → Bool
are_new before [] = true
are_new before (g ∷ rest) = not (is_among g.0 before) && are_new (before ++ g ∷ []) rest

-- ---- the values

-- the text that is given for a name
abbrev pub text_in : List Given → List ℕ → Option (List ℕ)
text_in given name = option_map (λ g. g.1) (find (λ g. bytes_eq g.0 name) given)

-- the text of the option is a number in its range, and one that is not wanted may have no text
abbrev pub is_fitting : (List ℕ → Option (List ℕ)) → LongOption → Bool
is_fitting text_of option =
    option_map_or (λ text. is_some (number_in option text)) (text_of (name_of option.name)) (not option.wanted)

abbrev pub value_of : (List ℕ → Option (List ℕ)) → LongOption → Option ℕ
value_of text_of option = option_and_then (number_in option) (text_of (name_of option.name))

-- the value of each option, where their texts fit
abbrev pub values_of : (List ℕ → Option (List ℕ)) → List LongOption → Option (List (Option ℕ))
values_of text_of options =
    if list_all (is_fitting text_of) options then Some (map (value_of text_of) options) else None

-- The value of each option, in the order of the options. There is an answer exactly where the words are names with
-- texts, each name is that of an option, none stands twice, each option that is wanted is there, and each text is a
-- number in the range of its option.
unfoldable pub options_in : List LongOption → List (List ℕ) → Option (List (Option ℕ))
options_in options words = option_and_then
    (λ given. if are_known options given && are_new [] given then values_of (text_in given) options else None)
    (given_from None words)

-- each value lies in the range of its option
abbrev pub AreWithin : List LongOption → List (Option ℕ) → Type 0
AreWithin options values = (i : ℕ) (option : LongOption) (number : ℕ) → slice_get options i ≡ Some option
    → slice_get values i ≡ Some (Some number) → (option.low ≤ number) × (number ≤ option.high)

-- with no options the words are of the grammar exactly where there are none
pub record NoOptions : Type 0 where
  pub no_words : options_in [] [] ≡ Some []
  pub a_word : (word : List ℕ) (rest : List (List ℕ)) → options_in [] (word ∷ rest) ≡ None
