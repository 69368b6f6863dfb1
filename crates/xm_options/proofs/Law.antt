-- Clap takes words, none of which is two dashes alone, exactly where they are names with texts.
use Rattle.std.proofs.Common.{◌≡◌, ◌∙◌, ◌&&◌, true, false, List, [], ◌∷◌, refl, ap, sym, inl, inr, Some, None}
use Rattle.std.specs.Prelude.{not}
use Rattle.std.specs.List.{fold, list_any}
use Rattle.std.proofs.lemmas.Bool.{cases_Bool}
use Rattle.clap.specs.Faults.{built_fault, check_fault, defaults_fault, fault_of, level_fault}
use Rattle.clap.specs.Simple.{App, matches_of, names_of}
use Rattle.clap.specs.Takes.{is_given}
use Rattle.clap.specs.Walk.{Held, Row, Rule, Text, has_row, idle, nothing_held, rows_after, with_default}
use Rattle.clap.proofs.FaultLemmas.{leaf_fault}
use Rattle.xm_options.specs.Inner.Command.{command_with}
use Rattle.xm_options.specs.Grammar.{Given, are_known, are_new, given_from}
use Rattle.xm_options.specs.declared.option.LongOption.{LongOption}
use Rattle.xm_options.proofs.Given.{are_undashed, pass_both, passes}
use Rattle.xm_options.proofs.Rules.{built_is, built_rule, rules_of, shape_of}
use Rattle.xm_options.proofs.Taken.{Passes, both_none, taken}
use Rattle.xm_options.specs.Inner.Words.{is_dashes}
use Rattle.xm_options.proofs.Turns.{standing}
use Rattle.xm_options.proofs.Uses.{rows_of}
use Rattle.xm_options.specs.Names.{name_of}

-- ---- nothing else fails, and nothing else is kept

no_defaults : (rows : List Row) (options : List LongOption) → defaults_fault rows (rules_of options) ≡ []
unfolding defaults_fault
no_defaults rows [] = refl
no_defaults rows (o ∷ os) = elim (cases_Bool (has_row (name_of o.name) rows)) [ inl has ↦ rw has (no_defaults rows os) | inr has ↦ rw has (no_defaults rows os) ]

none_kept : (rows : List Row) (name : Text) → with_default rows (built_rule name) ≡ rows
none_kept rows name = elim (cases_Bool (has_row name rows)) [ inl has ↦ rw has refl | inr has ↦ rw has refl ]

kept : (rows : List Row) (options : List LongOption) → fold with_default rows (rules_of options) ≡ rows
kept rows [] = refl
kept rows (o ∷ os) = ap (λ after. fold with_default after (rules_of os)) (none_kept rows (name_of o.name)) ∙ kept rows os

none_required : (rows : List Row) (options : List LongOption) → list_any (λ (a : Rule). a.required && not (is_given a.id rows)) (rules_of options) ≡ false
none_required rows [] = refl
none_required rows (o ∷ os) = none_required rows os

no_check : (rows : List Row) (options : List LongOption) → check_fault (shape_of options) rows false ≡ []
no_check rows options = rw (none_required rows options) refl

-- ---- the law

module _ (options : List LongOption) (words : List Text) where
  fault_is : fault_of (command_with options) words ≡ level_fault (shape_of options) [] nothing_held words false []
  fault_is = ap (λ a. built_fault a nothing_held words) (built_is options) ∙ leaf_fault (record { top = shape_of options; subs = [] }) nothing_held words refl

  no_fault : Passes options (standing nothing_held idle) words → fault_of (command_with options) words ≡ []
  no_fault p = fault_is ∙ pass_both _ _ p.walk (pass_both _ _ p.last (pass_both _ _ (no_defaults _ options) (no_check _ options)))

  from_no_fault : fault_of (command_with options) words ≡ [] → Passes options (standing nothing_held idle) words
  from_no_fault e =
      let walk = both_none _ _ (sym fault_is ∙ e) in
      let last = both_none _ _ walk.1 in
      record { walk = walk.0; last = last.0 }

  -- clap takes what the grammar gives
  pub takes_given : (given : List Given) → given_from None words ≡ Some given → are_known options given ≡ true → are_new [] given ≡ true → are_undashed given ≡ true
      → fault_of (command_with options) words ≡ []
  takes_given given is known new undashed =
      no_fault ((passes options words).0 [] None [] given (standing nothing_held idle) (record { passes = refl; settled_is = refl }) is (record { known = known; new = new; undashed = undashed }) refl)

  -- what clap takes, with its rows
  pub record IsTaken : Type 0 where
    pub given : List Given
    pub are_given : given_from None words ≡ Some given
    pub known : are_known options given ≡ true
    pub new : are_new [] given ≡ true
    pub rows : matches_of (command_with options) words ≡ rows_of given

  pub is_taken : list_any is_dashes words ≡ false → fault_of (command_with options) words ≡ [] → IsTaken
  is_taken none e =
      let takes = ((taken options words none).0 [] None [] (standing nothing_held idle) (λ _. refl) refl (from_no_fault e)).1 in
      record {
        given = takes.given;
        are_given = takes.are_given;
        known = takes.known;
        new = takes.new;
        rows = ap (λ (a : App). rows_after a.top.rules (names_of a) words) (built_is options) ∙ kept _ options ∙ ap (λ (x : Held). x.rows) takes.rows;
      }
