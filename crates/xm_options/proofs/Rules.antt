-- What clap builds of the options, and which of them it finds.
use Rattle.std.proofs.Common.{◌≡◌, ◌∙◌, ℕ, ◌&&◌, ◌||◌, Bool, true, false, cond, List, [], ◌∷◌, map, refl, ap, codes, Option, Some, None}
use Rattle.std.specs.Prelude.{if◌then◌else◌}
use Rattle.std.specs.List.{list_all, list_any}
use Rattle.std.specs.Str.{bytes_eq}
use Rattle.std.proofs.lemmas.Slice.Eq.{bytes_eq-Decides}
use Rattle.clap.specs.Simple.{App, Shape, built, filled, filled_from, is_buildable, is_ready, is_ready_leaf, new_shape}
use Rattle.clap.specs.Faults.{is_free_app, is_simple_and_free}
use Rattle.clap.specs.Walk.{Rule, arg_by_id, arg_by_index, arg_by_long, arg_by_short, is_early_multiple}
use Rattle.xm_options.specs.Inner.Command.{command_with, rule_for}
use Rattle.xm_options.specs.Grammar.{is_known}
use Rattle.xm_options.specs.declared.option.LongOption.{LongOption}
use Rattle.xm_options.specs.Names.{name_of}

-- the rule of an option, as clap builds it
abbrev pub built_rule : List ℕ → Rule
built_rule name = filled (rule_for name)

abbrev pub rules_of : List LongOption → List Rule
rules_of options = map (λ (option : LongOption). built_rule (name_of option.name)) options

-- the built command
abbrev pub shape_of : List LongOption → Shape
shape_of options = record (new_shape (codes "options")) {
  rules = rules_of options;
  no_binary_name = true;
  disable_help_flag = true;
  disable_help_subcommand = true;
  disable_version_flag = true;
  is_built = true;
}

filled_all : (i : ℕ) (options : List LongOption) → filled_from i (command_with options).top.rules ≡ rules_of options
filled_all i [] = refl
filled_all i (o ∷ os) = ap (λ rules. built_rule (name_of o.name) ∷ rules) (filled_all i os)

abbrev with_rules : List Rule → App
with_rules rules = record { top = record (shape_of []) { rules = rules }; subs = [] }

pub built_is : (options : List LongOption) → built (command_with options) ≡ record { top = shape_of options; subs = [] }
built_is options = ap with_rules (filled_all 1 options)

simple_before : (options : List LongOption) → list_all (λ (a : Rule). a.is_simple) (command_with options).top.rules ≡ true
simple_before [] = refl
simple_before (o ∷ os) = simple_before os

simple_after : (options : List LongOption) → list_all (λ (a : Rule). a.is_simple) (rules_of options) ≡ true
simple_after [] = refl
simple_after (o ∷ os) = simple_after os

free_after : (options : List LongOption) → list_all (λ (a : Rule). a.is_free) (rules_of options) ≡ true
free_after [] = refl
free_after (o ∷ os) = free_after os

none_early : (n : ℕ) (options : List LongOption) → list_any (is_early_multiple n) (rules_of options) ≡ false
none_early n [] = refl
none_early n (o ∷ os) = none_early n os

pub simple_command : (options : List LongOption) → is_simple_and_free (command_with options) ≡ true
simple_command options =
    ap (λ (b : App). (is_buildable (command_with options) && (is_ready b.top && list_all is_ready_leaf b.subs)) && is_free_app b) (built_is options)
    ∙ rw (simple_before options, simple_after options, none_early _ options, free_after options) refl

-- ---- which rule clap finds

abbrev pub when_known : Bool → List ℕ → Option Rule
when_known known name = if known then Some (built_rule name) else None

pick : (here known : Bool) (mine name : List ℕ) → (here ≡ true → mine ≡ name) → (rest : Option Rule) → rest ≡ when_known known name
    → cond here (Some (built_rule mine)) rest ≡ when_known (here || known) name
pick true known mine name same rest e = ap (λ n. Some (built_rule n)) (same refl)
pick false known mine name same rest e = e

pub or_false : (b : Bool) → (b || false) ≡ b
or_false true = refl
or_false false = refl

pub found_by_long : (options : List LongOption) (name : List ℕ) → arg_by_long (rules_of options) name ≡ when_known (is_known options name) name
found_by_long [] name = refl
found_by_long (o ∷ os) name =
    let same = bytes_eq-Decides (name_of o.name) name in
    rw (or_false (bytes_eq (name_of o.name) name)) (pick (bytes_eq (name_of o.name) name) _ (name_of o.name) name same.0 _ (found_by_long os name))

pub found_by_id : (options : List LongOption) (name : List ℕ) → arg_by_id (rules_of options) name ≡ when_known (is_known options name) name
found_by_id [] name = refl
found_by_id (o ∷ os) name =
    let same = bytes_eq-Decides (name_of o.name) name in
    pick (bytes_eq (name_of o.name) name) _ (name_of o.name) name same.0 _ (found_by_id os name)

pub none_by_short : (options : List LongOption) (c : ℕ) → arg_by_short (rules_of options) c ≡ None
none_by_short [] c = refl
none_by_short (o ∷ os) c = none_by_short os c

pub none_by_index : (options : List LongOption) (i : ℕ) → arg_by_index (rules_of options) i ≡ None
none_by_index [] i = refl
none_by_index (o ∷ os) i = none_by_index os i
