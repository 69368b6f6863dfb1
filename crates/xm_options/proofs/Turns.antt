-- What clap makes of one word.
use Rattle.std.proofs.Common.{◌≡◌, ◌⊎◌, ℕ, true, false, List, [], ◌∷◌, length, refl, inl, inr, Option, Some, None}
use Rattle.std.specs.Prelude.{slice_get}
use Rattle.std.specs.Str.{bytes_eq, chars}
use Rattle.std.proofs.lemmas.Slice.Eq.{bytes_eq-Decides}
use Rattle.clap.specs.Kinds.{Kinds, or_else}
use Rattle.clap.specs.Faults.{bundle_step_fault, flags_fault, option_fault, other_fault, turn_fault}
use Rattle.clap.specs.Lexer.{long_of, short_of}
use Rattle.clap.specs.Walk.{Held, Row, Text, Waiting, Walk, Outcome, bundle_met, bundle_step, idle, option, plain, plain_word, positional, reacted, settled, subcommand_met, subcommand_or_other, walked}
use Rattle.clap.specs.declared.error.kind.ErrorKind.TheVariants.{UnknownArgument}
use Rattle.xm_options.specs.Grammar.{is_known}
use Rattle.xm_options.specs.Inner.Words.{is_dashes}
use Rattle.xm_options.specs.declared.option.LongOption.{LongOption}
use Rattle.xm_options.proofs.Rules.{built_rule, found_by_id, found_by_long, none_by_index, none_by_short, rules_of, shape_of}
use Rattle.xm_options.proofs.Uses.{holding}

-- clap stands between two words
abbrev pub standing : Held → Waiting → Walk
standing h waiting = record { held = h; waiting = waiting; position = 1; is_trailing = false; stopped = None }

abbrev pub turn : List LongOption → Held → Waiting → Text → Kinds
turn options h waiting word = turn_fault (shape_of options) [] (standing h waiting) word

abbrev pub after : List LongOption → Held → Waiting → Text → Walk
after options h waiting word = walked (rules_of options) [] (standing h waiting) word

no_subcommand : (waiting : Waiting) (word : Text) → subcommand_met [] waiting word ≡ None
no_subcommand idle word = refl
no_subcommand (option name) word = refl
no_subcommand positional word = refl

or_else_none : (kinds : Kinds) → or_else kinds [] ≡ kinds
or_else_none [] = refl
or_else_none (k ∷ ks) = refl

-- ---- `--name` and `--name=text`

-- a name that is no option's is refused
pub unknown_turn : (options : List LongOption) (h : Held) (waiting : Waiting) (word name : Text) (v : Option Text) → is_dashes word ≡ false
    → long_of word ≡ Some (name, v) → is_known options name ≡ false → turn options h waiting word ≡ UnknownArgument ∷ []
unknown_turn options h waiting word name v whole long unknown = rw (no_subcommand waiting word, whole, long, found_by_long options name, unknown) refl

-- an option is met
pub option_turn : (options : List LongOption) (h : Held) (waiting : Waiting) (word name : Text) (v : Option Text) → is_dashes word ≡ false
    → long_of word ≡ Some (name, v) → is_known options name ≡ true → turn options h waiting word ≡ option_fault (rules_of options) false (built_rule name) v h
option_turn options h waiting word name None whole long known = rw (no_subcommand waiting word, whole, long, found_by_long options name, known) (or_else_none _)
option_turn options h waiting word name (Some text) whole long known = rw (no_subcommand waiting word, whole, long, found_by_long options name, known) (or_else_none _)

-- with its text it is used, and without it waits
abbrev pub when_met : List LongOption → Text → Option Text → Held → Walk
when_met options name None h = standing (record (settled (rules_of options) h) { pending = Some (name, []) }) (option name)
when_met options name (Some text) h = standing (reacted (rules_of options) (built_rule name) (text ∷ []) h) idle

pub after_option : (options : List LongOption) (h : Held) (waiting : Waiting) (word name : Text) (v : Option Text) → is_dashes word ≡ false
    → long_of word ≡ Some (name, v) → is_known options name ≡ true → after options h waiting word ≡ when_met options name v h
unfolding walked
after_option options h waiting word name None whole long known = rw (no_subcommand waiting word, whole, long, found_by_long options name, known) refl
after_option options h waiting word name (Some text) whole long known = rw (no_subcommand waiting word, whole, long, found_by_long options name, known) refl

-- ---- other words

-- the word is no flag, and is taken as it stands
pub record IsPlain (options : List LongOption) (waiting : Waiting) (word : Text) (h : Held) : Type 0 where
  pub passes : other_fault (shape_of options) None word h ≡ []
  pub met : subcommand_or_other (rules_of options) None waiting 1 word h ≡ plain_word (rules_of options) waiting word h

abbrev pub IsRefused : List LongOption → Text → Held → Type 0
IsRefused options word h = other_fault (shape_of options) None word h ≡ UnknownArgument ∷ []

pub plain_from : (options : List LongOption) (waiting : Waiting) (word : Text) (h : Held) → is_dashes word ≡ false → long_of word ≡ None → short_of word ≡ None
    → IsPlain options waiting word h
plain_from options waiting word h whole long short = record { passes = rw (whole, long, short) refl; met = rw (whole, long, short) refl }

module _ (options : List LongOption) (rows : List Row) (pending : Option (Text × List Text)) where
  first_flag : (x : Option ℕ) (flags : Text) (fails : Text → ℕ → Held → Kinds) (more : Text → ℕ → Outcome → Held → Held × Outcome)
      → (bundle_step_fault (rules_of options) false x flags 0 (holding rows pending) fails ≡ UnknownArgument ∷ [])
      ⊎ ((bundle_step_fault (rules_of options) false x flags 0 (holding rows pending) fails ≡ [])
      × (bundle_step (rules_of options) x flags 0 plain (holding rows pending) more ≡ (holding rows pending, plain)))
  first_flag None flags fails more = inr (refl, refl)
  first_flag (Some x) flags fails more = inl (rw (none_by_short options x) refl)

  flags_cases : (flags : Text) → (flags_fault (rules_of options) false (length flags) flags 0 (holding rows pending) ≡ UnknownArgument ∷ [])
      ⊎ ((flags_fault (rules_of options) false (length flags) flags 0 (holding rows pending) ≡ [])
      × (bundle_met (rules_of options) (length flags) flags 0 plain (holding rows pending) ≡ (holding rows pending, plain)))
  unfolding flags_fault bundle_met
  flags_cases [] = inr (refl, refl)
  flags_cases (x ∷ xs) = first_flag (slice_get (chars (x ∷ xs)) 0) (x ∷ xs) _ _

  -- a word that is no `--name` is refused, or is plain
  pub word_cases : (waiting : Waiting) (word : Text) → is_dashes word ≡ false → long_of word ≡ None
      → IsRefused options word (holding rows pending) ⊎ IsPlain options waiting word (holding rows pending)
  word_cases waiting word whole long = go (short_of word) refl
    where
      go : (flags : Option Text) → short_of word ≡ flags → IsRefused options word (holding rows pending) ⊎ IsPlain options waiting word (holding rows pending)
      go None short = inr (plain_from options waiting word (holding rows pending) whole long short)
      go (Some flags) short = elim (flags_cases flags) [
        | inl refused ↦ inl (rw (whole, long, short) refused)
        | inr passed ↦ inr (record { passes = rw (whole, long, short) passed.0; met = rw (whole, long, short, passed.1) refl })
      ]

pub refused_turn : (options : List LongOption) (h : Held) (name word : Text) → IsRefused options word h → turn options h (option name) word ≡ UnknownArgument ∷ []
refused_turn options h name word refused = rw refused refl

-- where no text is waited for, a word that is no `--name` fails
pub stray_turn : (options : List LongOption) (rows : List Row) (pending : Option (Text × List Text)) (word : Text) → is_dashes word ≡ false → long_of word ≡ None
    → turn options (holding rows pending) idle word ≡ UnknownArgument ∷ []
stray_turn options rows pending word whole long = elim (word_cases options rows pending idle word whole long) [
  | inl refused ↦ rw refused refl
  | inr passed ↦ rw (passed.passes, passed.met, none_by_index options 1) refl
]

module _ (options : List LongOption) (rows : List Row) (name : Text) (known : is_known options name ≡ true) where
  -- a plain word is the text that is waited for
  pub text_turn : (word : Text) → IsPlain options (option name) word (holding rows (Some (name, []))) → turn options (holding rows (Some (name, []))) (option name) word ≡ []
  text_turn word passed = rw (passed.passes, passed.met) refl

  pub after_text : (word : Text) → IsPlain options (option name) word (holding rows (Some (name, [])))
      → after options (holding rows (Some (name, []))) (option name) word ≡ standing (holding rows (Some (name, word ∷ []))) idle
  unfolding walked
  after_text word passed =
      let same : bytes_eq name name ≡ true = (bytes_eq-Decides name name).1 refl in
      rw (passed.met, found_by_id options name, known, same) refl
