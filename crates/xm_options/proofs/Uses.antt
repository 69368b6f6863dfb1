-- What clap keeps of the options that were given, and when a use of one fails.
use Rattle.std.proofs.Common.{◌≡◌, ◌∙◌, ℕ, ◌&&◌, ◌||◌, Bool, true, false, cond, List, [], ◌∷◌, ◌++◌, map, refl, ap, sym, Option, Some, None, append-nil}
use Rattle.std.specs.Prelude.{if◌then◌else◌, find, option_and_then, option_map, slice_get}
use Rattle.std.specs.Option.{option_map_or}
use Rattle.std.specs.Str.{bytes_eq}
use Rattle.std.proofs.lemmas.Bool.{or_parts}
use Rattle.std.proofs.lemmas.List.{map-append}
use Rattle.clap.specs.Kinds.{Kinds, or_else}
use Rattle.clap.specs.Faults.{settle_fault, use_fault}
use Rattle.clap.specs.Walk.{Held, Row, Rule, Text, at_row, arg_by_id, first_of, has_row, more_values, settled, used, used_by_id, with_values, without}
use Rattle.clap.specs.declared.builder.value_parser.Reading.TheVariants.{AsWritten}
use Rattle.clap.specs.declared.error.kind.ErrorKind.TheVariants.{ArgumentConflict}
use Rattle.clap.specs.declared.parser.matches.ValueSource.TheVariants.{CommandLine}
use Rattle.xm_options.specs.Grammar.{Given, is_among, is_known, text_in}
use Rattle.xm_options.specs.declared.option.LongOption.{LongOption}
use Rattle.xm_options.proofs.Rules.{built_rule, found_by_id, rules_of, when_known}

-- the row that clap keeps of a name with its text
abbrev pub row_of : Given → Row
row_of g = record {
  id = g.0;
  values = g.1 ∷ [];
  count = None;
  source = Some CommandLine;
  reading = AsWritten;
}

abbrev pub rows_of : List Given → List Row
rows_of given = map row_of given

-- the rows, and the name that waits or the name with the text that is not yet a row
abbrev pub holding : List Row → Option (Text × List Text) → Held
holding rows pending = record { rows = rows; pending = pending; skip = 0 }

-- ---- the rows

pub among_rows : (name : List ℕ) (given : List Given) → has_row name (rows_of given) ≡ is_among name given
among_rows name [] = refl
among_rows name (g ∷ rest) = ap (λ b. bytes_eq g.0 name || b) (among_rows name rest)

pub first_in_rows : (name : List ℕ) (given : List Given) → first_of name (rows_of given) ≡ text_in given name
first_in_rows name [] = refl
first_in_rows name (g ∷ rest) = go (bytes_eq g.0 name) (first_in_rows name rest)
  where
    go : (here : Bool) → first_of name (rows_of rest) ≡ text_in rest name
        → option_and_then (λ (r : Row). slice_get r.values 0) (cond here (Some (row_of g)) (find (λ (r : Row). bytes_eq r.id name) (rows_of rest)))
        ≡ option_map (λ (x : Given). x.1) (cond here (Some g) (find (λ (x : Given). bytes_eq x.0 name) rest))
    go true e = refl
    go false e = e

no_row : (name : List ℕ) (change : Row → List Row) (missing : List Row) (given : List Given) → is_among name given ≡ false
    → at_row name change missing (rows_of given) ≡ rows_of given ++ missing
no_row name change missing [] new = refl
no_row name change missing (g ∷ rest) new =
    let apart = or_parts (bytes_eq g.0 name) (is_among name rest) new in
    rw apart.0 (ap (λ rows. row_of g ∷ rows) (no_row name change missing rest apart.1))

-- a first use adds a row
pub used_once : (name text : List ℕ) (given : List Given) → is_among name given ≡ false
    → used (built_rule name) (text ∷ []) (rows_of given) ≡ rows_of (given ++ (name, text) ∷ [])
used_once name text given new =
    let kept : without name (rows_of given) ≡ rows_of given = no_row name (λ _. []) [] given new ∙ append-nil (rows_of given) in
    ap (with_values name AsWritten CommandLine (text ∷ [])) kept ∙ no_row name (more_values CommandLine (text ∷ [])) (row_of (name, text) ∷ []) given new ∙ sym (map-append row_of given ((name, text) ∷ []))

-- ---- faults of a use

abbrev again : Bool → Kinds
again among = or_else (if among && true then ArgumentConflict ∷ [] else []) []

conflicts : (among : Bool) → again among ≡ (if among then ArgumentConflict ∷ [] else [])
conflicts true = refl
conflicts false = refl

-- with one text, only a second use fails
pub use_faults : (name text : List ℕ) (given : List Given)
    → use_fault false (built_rule name) (text ∷ []) (rows_of given) ≡ (if is_among name given then ArgumentConflict ∷ [] else [])
use_faults name text given = ap again (among_rows name given) ∙ conflicts (is_among name given)

found : (options : List LongOption) (name : List ℕ) → is_known options name ≡ true → arg_by_id (rules_of options) name ≡ Some (built_rule name)
found options name known = found_by_id options name ∙ ap (λ b. when_known b name) known

-- what is pending is used at the next option or at the end
pub settle_faults : (options : List LongOption) (rows : List Row) (name : List ℕ) (texts : List Text) → is_known options name ≡ true
    → settle_fault (rules_of options) false (holding rows (Some (name, texts))) ≡ use_fault false (built_rule name) texts rows
settle_faults options rows name texts known =
    ap (λ (found : Option Rule). option_map_or (λ a. use_fault false a texts rows) found []) (found options name known)

pub settles_to : (options : List LongOption) (rows : List Row) (name : List ℕ) (texts : List Text) → is_known options name ≡ true
    → settled (rules_of options) (holding rows (Some (name, texts))) ≡ holding (used (built_rule name) texts rows) None
settles_to options rows name texts known = ap (λ (found : Option Rule). holding (used_by_id found texts rows) None) (found options name known)
