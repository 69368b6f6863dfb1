-- Words that clap takes, none of which is two dashes alone, are names with texts.
use Rattle.std.proofs.Common.{◌≡◌, ◌∙◌, Bool, true, false, List, [], ◌∷◌, ◌++◌, refl, ap, sym, subst, inl, inr, Option, Some, None, append-nil, append_assoc}
use Rattle.std.specs.Prelude.{if◌then◌else◌}
use Rattle.std.specs.List.{fold, list_any}
use Rattle.std.proofs.lemmas.Bool.{cases_Bool, or_parts}
use Rattle.clap.specs.Kinds.{Kinds, or_else}
use Rattle.clap.specs.Faults.{option_fault, settle_fault, turn_fault, use_fault, walk_fault}
use Rattle.clap.specs.Lexer.{long_of}
use Rattle.clap.specs.Walk.{Held, Row, Rule, Text, Walk, idle, option, settled, used, walked}
use Rattle.clap.specs.declared.error.kind.ErrorKind.{ErrorKind}
use Rattle.clap.specs.declared.error.kind.ErrorKind.TheVariants.{ArgumentConflict, InvalidValue, UnknownArgument}
use Rattle.xm_options.specs.Grammar.{Given, are_known, are_new, given_from, is_among, is_known, more_given}
use Rattle.xm_options.specs.declared.option.LongOption.{LongOption}
use Rattle.xm_options.proofs.Rules.{built_rule, rules_of, shape_of}
use Rattle.xm_options.specs.Inner.Words.{is_dashes}
use Rattle.xm_options.proofs.Turns.{IsPlain, after, after_option, after_text, option_turn, refused_turn, standing, stray_turn, turn, unknown_turn, word_cases}
use Rattle.xm_options.proofs.Uses.{holding, rows_of, settle_faults, settles_to, use_faults, used_once}
use Rattle.xm_options.proofs.Words.{given_next}

pub both_none : (a b : Kinds) → or_else a b ≡ [] → (a ≡ []) × (b ≡ [])
both_none [] b e = (refl, e)
both_none (k ∷ ks) b e = cc

not_none : {X : Type 0} (kinds : Kinds) (k : ErrorKind) → kinds ≡ k ∷ [] → kinds ≡ [] → X
not_none kinds k some none = absurd (cc)

not_again : (among : Bool) → (if among then ArgumentConflict ∷ [] else []) ≡ [] → among ≡ false
not_again true e = cc
not_again false e = refl

module _ (options : List LongOption) where
  -- what is held after the words
  abbrev pub held_after : Walk → List Text → Held
  held_after w words = (fold (walked (rules_of options) []) w words).held

  -- clap takes the words from w on
  pub record Passes (w : Walk) (words : List Text) : Type 0 where
    pub walk : walk_fault (shape_of options) [] w words ≡ []
    pub last : settle_fault (rules_of options) false (held_after w words) ≡ []

  -- the words are given, and what clap holds after them are their rows behind those before
  pub record Takes (w : Walk) (waiting : Option Text) (words : List Text) (before : List Given) : Type 0 where
    pub given : List Given
    pub are_given : given_from waiting words ≡ Some given
    pub known : are_known options given ≡ true
    pub new : are_new before given ≡ true
    pub rows : settled (rules_of options) (held_after w words) ≡ holding (rows_of (before ++ given)) None

  -- where what is pending can be used, the rows are those of the names and texts before
  abbrev pub Ends : List Row → Option (Text × List Text) → List Given → Type 0
  Ends rows pending before = settle_fault (rules_of options) false (holding rows pending) ≡ []
      → settled (rules_of options) (holding rows pending) ≡ holding (rows_of before) None

  -- the claim, where no text is waited for and where one is
  abbrev Idle : List Text → Type 0
  Idle words = (rows : List Row) (pending : Option (Text × List Text)) (before : List Given) (w : Walk) → Ends rows pending before
      → w ≡ standing (holding rows pending) idle → Passes w words
      → (settle_fault (rules_of options) false (holding rows pending) ≡ []) × Takes w None words before

  abbrev Waits : List Text → Type 0
  Waits words = (before : List Given) (name : Text) (w : Walk) → is_known options name ≡ true
      → w ≡ standing (holding (rows_of before) (Some (name, []))) (option name) → Passes w words → Takes w (Some name) words before

  after_word : (w : Walk) (word : Text) (rest : List Text) → Passes w (word ∷ rest)
      → (turn_fault (shape_of options) [] w word ≡ []) × Passes (walked (rules_of options) [] w word) rest
  unfolding walk_fault
  after_word w word rest passes =
      let both = both_none (turn_fault (shape_of options) [] w word) _ passes.walk in
      (both.0, record { walk = both.1; last = passes.last })

  -- a name with its text stands before what clap takes from the next word on
  one_more : (w : Walk) (waiting : Option Text) (word : Text) (rest : List Text) (before : List Given) (name text : Text) → is_known options name ≡ true
      → is_among name before ≡ false → given_from waiting (word ∷ rest) ≡ more_given name text (given_from None rest)
      → Takes (walked (rules_of options) [] w word) None rest (before ++ (name, text) ∷ []) → Takes w waiting (word ∷ rest) before
  one_more w waiting word rest before name text known new is takes = record {
    given = (name, text) ∷ takes.given;
    are_given = is ∙ ap (more_given name text) takes.are_given;
    known = rw known takes.known;
    new = rw new takes.new;
    rows = takes.rows ∙ ap (λ given. holding (rows_of given) None) (append_assoc before ((name, text) ∷ []) takes.given);
  }

  waiting_fails : (rows : List Row) (name : Text) → is_known options name ≡ true
      → settle_fault (rules_of options) false (holding rows (Some (name, []))) ≡ InvalidValue ∷ []
  waiting_fails rows name known = settle_faults options rows name [] known

  settled_first : (a : Rule) (v : Option Text) (h : Held) → option_fault (rules_of options) false a v h ≡ [] → settle_fault (rules_of options) false h ≡ []
  settled_first a None h e = e
  settled_first a (Some text) h e = (both_none (settle_fault (rules_of options) false h) _ e).0

  module _ (word : Text) (rest : List Text) (whole : is_dashes word ≡ false) (idle_rest : Idle rest) (waits_rest : Waits rest) where
    met : (rows : List Row) (pending : Option (Text × List Text)) (before : List Given) (name : Text) (v : Option Text) → Ends rows pending before
        → long_of word ≡ Some (name, v) → is_known options name ≡ true → Passes (standing (holding rows pending) idle) (word ∷ rest)
        → (settle_fault (rules_of options) false (holding rows pending) ≡ []) × Takes (standing (holding rows pending) idle) None (word ∷ rest) before
    met rows pending before name None ends long known passes =
        let h = holding rows pending in
        let parts = after_word (standing h idle) word rest passes in
        let passed = sym (option_turn options h idle word name None whole long known) ∙ parts.0 in
        let at : after options h idle word ≡ standing (holding (rows_of before) (Some (name, []))) (option name) =
        after_option options h idle word name None whole long known ∙ ap (λ (x : Held). standing (record x { pending = Some (name, []) }) (option name)) (ends passed) in
        let takes = waits_rest before name (after options h idle word) known at parts.1 in (
          passed,
          record {
            given = takes.given;
            are_given = given_next word name None rest long ∙ takes.are_given;
            known = takes.known;
            new = takes.new;
            rows = takes.rows;
          },
        )
    met rows pending before name (Some text) ends long known passes =
        let h = holding rows pending in
        let parts = after_word (standing h idle) word rest passes in
        let passed = both_none (settle_fault (rules_of options) false h) _ (sym (option_turn options h idle word name (Some text) whole long known) ∙ parts.0) in
        let once : use_fault false (built_rule name) (text ∷ []) (rows_of before) ≡ [] =
        ap (λ (x : Held). use_fault false (built_rule name) (text ∷ []) x.rows) (sym (ends passed.0)) ∙ passed.1 in
        let new = not_again (is_among name before) (sym (use_faults name text before) ∙ once) in
        let at : after options h idle word ≡ standing (holding (rows_of (before ++ (name, text) ∷ [])) None) idle =
        after_option options h idle word name (Some text) whole long known
        ∙ ap (λ (x : Held). standing (holding (used (built_rule name) (text ∷ []) x.rows) None) idle) (ends passed.0)
        ∙ ap (λ rows. standing (holding rows None) idle) (used_once name text before new) in
        let takes = (idle_rest (rows_of (before ++ (name, text) ∷ [])) None (before ++ (name, text) ∷ []) (after options h idle word) (λ _. refl) at parts.1).1 in
        (passed.0, one_more (standing h idle) None word rest before name text known new (given_next word name (Some text) rest long) takes)

    idle_step : (rows : List Row) (pending : Option (Text × List Text)) (before : List Given) → Ends rows pending before
        → Passes (standing (holding rows pending) idle) (word ∷ rest)
        → (settle_fault (rules_of options) false (holding rows pending) ≡ []) × Takes (standing (holding rows pending) idle) None (word ∷ rest) before
    idle_step rows pending before ends passes = go (long_of word) refl
      where
        first : turn options (holding rows pending) idle word ≡ []
        first = (after_word (standing (holding rows pending) idle) word rest passes).0

        go : (o : Option (Text × Option Text)) → long_of word ≡ o
            → (settle_fault (rules_of options) false (holding rows pending) ≡ []) × Takes (standing (holding rows pending) idle) None (word ∷ rest) before
        go None long = not_none _ UnknownArgument (stray_turn options rows pending word whole long) first
        go (Some (name, v)) long = elim (cases_Bool (is_known options name)) [
          | inl known ↦ met rows pending before name v ends long known passes
          | inr unknown ↦ not_none _ UnknownArgument (unknown_turn options (holding rows pending) idle word name v whole long unknown) first
        ]

    text_met : (before : List Given) (name : Text) → is_known options name ≡ true → IsPlain options (option name) word (holding (rows_of before) (Some (name, [])))
        → Passes (standing (holding (rows_of before) (Some (name, []))) (option name)) (word ∷ rest)
        → Takes (standing (holding (rows_of before) (Some (name, []))) (option name)) (Some name) (word ∷ rest) before
    text_met before name known passed passes =
        let start = standing (holding (rows_of before) (Some (name, []))) (option name) in
        let new : settle_fault (rules_of options) false (holding (rows_of before) (Some (name, word ∷ []))) ≡ [] → is_among name before ≡ false =
        λ settles. not_again (is_among name before) (sym (use_faults name word before) ∙ sym (settle_faults options (rows_of before) name (word ∷ []) known) ∙ settles) in
        let ends : Ends (rows_of before) (Some (name, word ∷ [])) (before ++ (name, word) ∷ []) =
        λ settles. settles_to options (rows_of before) name (word ∷ []) known ∙ ap (λ rows. holding rows None) (used_once name word before (new settles)) in
        let takes = idle_rest (rows_of before) (Some (name, word ∷ [])) (before ++ (name, word) ∷ []) (walked (rules_of options) [] start word) ends
        (after_text options (rows_of before) name known word passed) (after_word start word rest passes).1 in
        one_more start (Some name) word rest before name word known (new takes.0) refl takes.1

    waits_step : (before : List Given) (name : Text) → is_known options name ≡ true
        → Passes (standing (holding (rows_of before) (Some (name, []))) (option name)) (word ∷ rest)
        → Takes (standing (holding (rows_of before) (Some (name, []))) (option name)) (Some name) (word ∷ rest) before
    waits_step before name known passes = go (long_of word) refl
      where
        first : turn options (holding (rows_of before) (Some (name, []))) (option name) word ≡ []
        first = (after_word (standing (holding (rows_of before) (Some (name, []))) (option name)) word rest passes).0

        go : (o : Option (Text × Option Text)) → long_of word ≡ o → Takes (standing (holding (rows_of before) (Some (name, []))) (option name)) (Some name) (word ∷ rest) before
        go None long = elim (word_cases options (rows_of before) (Some (name, [])) (option name) word whole long) [
          | inl refused ↦ not_none _ UnknownArgument (refused_turn options (holding (rows_of before) (Some (name, []))) name word refused) first
          | inr passed ↦ text_met before name known passed passes
        ]
        go (Some (other, v)) long = elim (cases_Bool (is_known options other)) [
          | inl found ↦ not_none _ InvalidValue (waiting_fails (rows_of before) name known)
              (settled_first (built_rule other) v _ (sym (option_turn options (holding (rows_of before) (Some (name, []))) (option name) word other v whole long found) ∙ first))
          | inr unknown ↦ not_none _ UnknownArgument (unknown_turn options (holding (rows_of before) (Some (name, []))) (option name) word other v whole long unknown) first
        ]

  pub taken : (words : List Text) → list_any is_dashes words ≡ false → Idle words × Waits words
  taken [] none = (
    λ rows pending before w ends at passes. subst (λ v. Passes v [] → (settle_fault (rules_of options) false (holding rows pending) ≡ []) × Takes v None [] before) (sym at) (λ ok. (
      ok.last,
      record { given = []; are_given = refl; known = refl; new = refl; rows = ends ok.last ∙ ap (λ given. holding (rows_of given) None) (sym (append-nil before)) },
    )) passes,
    λ before name w known at passes. subst (λ v. Passes v [] → Takes v (Some name) [] before) (sym at) (λ ok. not_none _ InvalidValue (waiting_fails (rows_of before) name known) ok.last) passes,
  )
  taken (word ∷ rest) none =
      let parts = or_parts (is_dashes word) (list_any is_dashes rest) none in
      let more = taken rest parts.1 in (
        λ rows pending before w ends at passes. subst (λ v. Passes v (word ∷ rest) → (settle_fault (rules_of options) false (holding rows pending) ≡ []) × Takes v None (word ∷ rest) before) (sym at)
            (idle_step word rest parts.0 more.0 more.1 rows pending before ends) passes,
        λ before name w known at passes. subst (λ v. Passes v (word ∷ rest) → Takes v (Some name) (word ∷ rest) before) (sym at)
            (waits_step word rest parts.0 more.0 more.1 before name known) passes,
      )
