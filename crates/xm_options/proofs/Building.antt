-- The command is built option by option.
use Rattle.std.proofs.Common.{◌≡◌, ◌∙◌, ℕ, ◌+◌, ◌<◌, List, [], ◌∷◌, ◌++◌, length, take, ap, sym, slice_index_or}
use Rattle.std.proofs.lemmas.List.{map-append, take_more}
use Rattle.clap.specs.Simple.{App, with_rule}
use Rattle.clap.specs.Walk.{Rule}
use Rattle.xm_options.specs.Inner.Command.{command_with, rule_for}
use Rattle.xm_options.specs.declared.option.LongOption.{LongOption}
use Rattle.xm_options.specs.Names.{name_of}

-- the command with one more option
one_more : (xs : List LongOption) (x : LongOption) → with_rule (command_with xs) (rule_for (name_of x.name)) ≡ command_with (xs ++ x ∷ [])
one_more xs x = ap (λ (rules : List Rule). record (command_with []) { top = record (command_with []).top { rules = rules } }) (sym (map-append (λ (y : LongOption). rule_for (name_of y.name)) xs (x ∷ [])))

pub more_options : (xs : List LongOption) (i : ℕ) (x : LongOption) (before after : App) → i < length xs → before ≡ command_with (take i xs)
    → after ≡ with_rule before (rule_for (name_of (slice_index_or xs i x).name)) → after ≡ command_with (take (i + 1) xs)
more_options xs i x before after lt so_far more =
    more ∙ ap (λ a. with_rule a (rule_for (name_of (slice_index_or xs i x).name))) so_far ∙ one_more (take i xs) (slice_index_or xs i x) ∙ ap command_with (sym (take_more xs i x lt))
