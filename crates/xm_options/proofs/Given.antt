-- Clap takes words that are names with texts.
use Rattle.std.proofs.Common.{◌≡◌, ◌∙◌, Bool, true, false, List, [], ◌∷◌, ◌++◌, refl, ap, sym, subst, Option, Some, None}
use Rattle.std.specs.Prelude.{if◌then◌else◌, not}
use Rattle.std.specs.List.{list_all}
use Rattle.std.proofs.lemmas.Bool.{and_parts, not-true}
use Rattle.std.proofs.lemmas.Option.{same_Some}
use Rattle.clap.specs.Kinds.{Kinds, or_else}
use Rattle.clap.specs.Faults.{settle_fault, turn_fault, use_fault, walk_fault}
use Rattle.clap.specs.Lexer.{long_of}
use Rattle.clap.specs.Walk.{Held, Row, Text, Walk, idle, option, settled, used, walked}
use Rattle.clap.specs.declared.error.kind.ErrorKind.TheVariants.{ArgumentConflict}
use Rattle.xm_options.specs.Grammar.{Given, are_known, are_new, given_from, is_among, is_known, more_given}
use Rattle.xm_options.specs.declared.option.LongOption.{LongOption}
use Rattle.xm_options.proofs.Rules.{built_rule, rules_of, shape_of}
use Rattle.xm_options.proofs.Taken.{Passes}
use Rattle.xm_options.proofs.Turns.{after, after_option, after_text, option_turn, plain_from, standing, text_turn, turn}
use Rattle.xm_options.proofs.Uses.{holding, rows_of, settle_faults, settles_to, use_faults, used_once}
use Rattle.xm_options.proofs.Words.{given_next, given_none, is_undashed, next_given, undashed, whole_with_name}

abbrev pub are_undashed : List Given → Bool
are_undashed given = list_all (λ g. is_undashed g.1) given

-- what is given of a first name and text, and of the rest
pub record Parts (name text : Text) (from : Option (List Given)) (given : List Given) : Type 0 where
  pub rest : List Given
  pub given_is : given ≡ (name, text) ∷ rest
  pub from_is : from ≡ Some rest

pub parts : (name text : Text) (from : Option (List Given)) (given : List Given) → more_given name text from ≡ Some given → Parts name text from given
parts name text None given e = absurd (cc)
parts name text (Some rest) given e = record { rest = rest; given_is = sym (same_Some _ _ e); from_is = refl }

pub pass_both : (a b : Kinds) → a ≡ [] → b ≡ [] → or_else a b ≡ []
pass_both a b first second = ap (λ kinds. or_else kinds b) first ∙ second

-- a name that waits is that of an option
pub waiting_known : (options : List LongOption) (given : List Given) (name : Text) (words : List Text) → given_from (Some name) words ≡ Some given → are_known options given ≡ true
    → is_known options name ≡ true
waiting_known options given name [] is known = absurd (cc)
waiting_known options given name (word ∷ rest) is known =
    let p = parts name word (given_from None rest) given is in
    (and_parts (is_known options name) (are_known options p.rest) (ap (are_known options) (sym p.given_is) ∙ known)).0

module _ (options : List LongOption) where
  -- the names and texts may stand behind those before
  pub record Fits (before given : List Given) : Type 0 where
    pub known : are_known options given ≡ true
    pub new : are_new before given ≡ true
    pub undashed : are_undashed given ≡ true

  -- the same of a first name and text, and of the rest
  record FitsFirst (before : List Given) (name text : Text) (rest : List Given) : Type 0 where
    known : is_known options name ≡ true
    new : is_among name before ≡ false
    undashed : is_undashed text ≡ true
    others : Fits (before ++ (name, text) ∷ []) rest

  fits_first : (before : List Given) (name text : Text) (given rest : List Given) → given ≡ (name, text) ∷ rest → Fits before given → FitsFirst before name text rest
  fits_first before name text given rest is fits =
      let known = and_parts (is_known options name) (are_known options rest) (ap (are_known options) (sym is) ∙ fits.known) in
      let new = and_parts (not (is_among name before)) (are_new (before ++ (name, text) ∷ []) rest) (ap (are_new before) (sym is) ∙ fits.new) in
      let whole = and_parts (is_undashed text) (are_undashed rest) (ap are_undashed (sym is) ∙ fits.undashed) in
      record {
        known = known.0;
        new = not-true (is_among name before) new.0;
        undashed = whole.0;
        others = record { known = known.1; new = new.1; undashed = whole.1 };
      }

  -- what is pending can be used, and the rows are then those of the names and texts before
  pub record Settles (rows : List Row) (pending : Option (Text × List Text)) (before : List Given) : Type 0 where
    pub passes : settle_fault (rules_of options) false (holding rows pending) ≡ []
    pub settled_is : settled (rules_of options) (holding rows pending) ≡ holding (rows_of before) None

  -- the claim, where no text is waited for and where one is
  abbrev pub Idle : List Text → Type 0
  Idle words = (rows : List Row) (pending : Option (Text × List Text)) (before given : List Given) (w : Walk) → Settles rows pending before
      → given_from None words ≡ Some given → Fits before given → w ≡ standing (holding rows pending) idle → Passes options w words

  abbrev pub Waits : List Text → Type 0
  Waits words = (before given : List Given) (name : Text) (w : Walk) → given_from (Some name) words ≡ Some given → Fits before given
      → w ≡ standing (holding (rows_of before) (Some (name, []))) (option name) → Passes options w words

  before_word : (w : Walk) (word : Text) (rest : List Text) → turn_fault (shape_of options) [] w word ≡ [] → Passes options (walked (rules_of options) [] w word) rest
      → Passes options w (word ∷ rest)
  unfolding walk_fault
  before_word w word rest turn passes = record { walk = ap (λ kinds. or_else kinds (walk_fault (shape_of options) [] (walked (rules_of options) [] w word) rest)) turn ∙ passes.walk; last = passes.last }

  module _ (word : Text) (rest : List Text) (idle_rest : Idle rest) (waits_rest : Waits rest) where
    met : (rows : List Row) (pending : Option (Text × List Text)) (before given : List Given) (name : Text) (v : Option Text) → Settles rows pending before
        → long_of word ≡ Some (name, v) → next_given name v rest ≡ Some given → Fits before given → Passes options (standing (holding rows pending) idle) (word ∷ rest)
    met rows pending before given name None settles long is fits =
        let h = holding rows pending in
        let whole = whole_with_name word name None long in
        let known = waiting_known options given name rest is fits.known in
        let at : after options h idle word ≡ standing (holding (rows_of before) (Some (name, []))) (option name) =
        after_option options h idle word name None whole long known ∙ ap (λ (x : Held). standing (record x { pending = Some (name, []) }) (option name)) settles.settled_is in
        before_word (standing h idle) word rest (option_turn options h idle word name None whole long known ∙ settles.passes)
        (waits_rest before given name (after options h idle word) is fits at)
    met rows pending before given name (Some text) settles long is fits =
        let h = holding rows pending in
        let whole = whole_with_name word name (Some text) long in
        let p = parts name text (given_from None rest) given is in
        let fit = fits_first before name text given p.rest p.given_is fits in
        let once : use_fault false (built_rule name) (text ∷ []) (rows_of before) ≡ [] = use_faults name text before ∙ ap (λ b. if b then ArgumentConflict ∷ [] else []) fit.new in
        let passed : or_else (settle_fault (rules_of options) false h) (use_fault false (built_rule name) (text ∷ []) (settled (rules_of options) h).rows) ≡ [] =
        pass_both (settle_fault (rules_of options) false h) _ settles.passes
        (ap (λ (x : Held). use_fault false (built_rule name) (text ∷ []) x.rows) settles.settled_is ∙ once) in
        let at : after options h idle word ≡ standing (holding (rows_of (before ++ (name, text) ∷ [])) None) idle =
        after_option options h idle word name (Some text) whole long fit.known
        ∙ ap (λ (x : Held). standing (holding (used (built_rule name) (text ∷ []) x.rows) None) idle) settles.settled_is
        ∙ ap (λ rows. standing (holding rows None) idle) (used_once name text before fit.new) in
        before_word (standing h idle) word rest (option_turn options h idle word name (Some text) whole long fit.known ∙ passed)
        (idle_rest (rows_of (before ++ (name, text) ∷ [])) None (before ++ (name, text) ∷ []) p.rest (after options h idle word) (record { passes = refl; settled_is = refl }) p.from_is fit.others at)

    idle_step : (rows : List Row) (pending : Option (Text × List Text)) (before given : List Given) → Settles rows pending before
        → given_from None (word ∷ rest) ≡ Some given → Fits before given → Passes options (standing (holding rows pending) idle) (word ∷ rest)
    idle_step rows pending before given settles is fits = go (long_of word) refl
      where
        go : (o : Option (Text × Option Text)) → long_of word ≡ o → Passes options (standing (holding rows pending) idle) (word ∷ rest)
        go None long = absurd (let none = given_none word rest long in cc)
        go (Some (name, v)) long = met rows pending before given name v settles long (sym (given_next word name v rest long) ∙ is) fits

    waits_step : (before given : List Given) (name : Text) → given_from (Some name) (word ∷ rest) ≡ Some given → Fits before given
        → Passes options (standing (holding (rows_of before) (Some (name, []))) (option name)) (word ∷ rest)
    waits_step before given name is fits =
        let start = standing (holding (rows_of before) (Some (name, []))) (option name) in
        let p = parts name word (given_from None rest) given is in
        let fit = fits_first before name word given p.rest p.given_is fits in
        let none = undashed word fit.undashed in
        let plain = plain_from options (option name) word (holding (rows_of before) (Some (name, []))) none.0 none.1.0 none.1.1 in
        let settles : Settles (rows_of before) (Some (name, word ∷ [])) (before ++ (name, word) ∷ []) = record {
          passes = settle_faults options (rows_of before) name (word ∷ []) fit.known ∙ use_faults name word before ∙ ap (λ b. if b then ArgumentConflict ∷ [] else []) fit.new;
          settled_is = settles_to options (rows_of before) name (word ∷ []) fit.known ∙ ap (λ rows. holding rows None) (used_once name word before fit.new);
        } in
        before_word start word rest (text_turn options (rows_of before) name fit.known word plain)
        (idle_rest (rows_of before) (Some (name, word ∷ [])) (before ++ (name, word) ∷ []) p.rest (walked (rules_of options) [] start word) settles p.from_is fit.others
        (after_text options (rows_of before) name fit.known word plain))

  pub passes : (words : List Text) → Idle words × Waits words
  unfolding walk_fault
  passes [] = (
    λ rows pending before given w settles is fits at. subst (λ v. Passes options v []) (sym at) (record { walk = refl; last = settles.passes }),
    λ before given name w is fits at. absurd (cc),
  )
  passes (word ∷ rest) =
      let more = passes rest in (
        λ rows pending before given w settles is fits at. subst (λ v. Passes options v (word ∷ rest)) (sym at) (idle_step word rest more.0 more.1 rows pending before given settles is fits),
        λ before given name w is fits at. subst (λ v. Passes options v (word ∷ rest)) (sym at) (waits_step word rest more.0 more.1 before given name is fits),
      )
