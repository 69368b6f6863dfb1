-- Lemma: a valid proof refutes its goals for each reading of literals that answers the rules and meets no clash.
-- Read as what holds on a run, it says what a proof is worth; read as a candidate's literals, that it has no proof.
use Rattle.std.proofs.Common.{◌≡◌, ℕ, zero, suc, Option, Some, None, List, [], ◌∷◌, ◌++◌, slice_get, true, false}
use Rattle.std.proofs.Common.{sym, ◌∙◌, ap, subst, inl, inr}
use Rattle.std.specs.Prelude.{◌⊎◌}
use Rattle.std.proofs.lemmas.Bool.{and_parts, cases_Bool, cond-true, cond-false, eqb-true, or_cases}
use Rattle.xm_colours.specs.Family.{colours_at}
use Rattle.xm_design.specs.Designed.{Designed}
use Rattle.xm_flow.specs.ValidLemma.{Lemma}
use Rattle.xm_lits.specs.Clashes.{is_offered, are_opposed, is_outside}
use Rattle.xm_lits.specs.Inference.{Inference, idle_all, rules_of}
use Rattle.xm_lits.specs.Repeating.{AllOf, SomeOf}
use Rattle.xm_lits.specs.declared.inference.RuleName.{RuleName}
use Rattle.xm_lits.specs.declared.literal.Lit.{Lit}
use Rattle.xm_lits.specs.declared.literal.Lit.TheVariants.{Stuck, Dead, Idle, Full, Has, Lacks}
use Rattle.xm_model.specs.Membership.{IsIn}
use Rattle.xm_proof.specs.Argument.{Cite, Clash, Eager, Open, Refutation, Split, Step, Sum, literals}
use Rattle.xm_lits.specs.Paths.{are_on_path, is_on_path, are_same}
use Rattle.xm_proof.specs.Tests.{find_rule, is_named, longer}
use Rattle.xm_proof.specs.Valid.{AllRefuted, Clashes, Closes, GoalsRefuted, Refutes}
use Rattle.xm_proof.specs.declared.proof.Item.{Item}

pub lit_from : (l m : Lit) → are_same l m ≡ true → l ≡ m
lit_from (Stuck c) (Stuck e) h = ap Stuck (eqb-true c e h)
lit_from (Dead c d) (Dead e f) h =
    let both = and_parts _ _ h in let x = eqb-true c e both.0 in let y = eqb-true d f both.1 in cc
lit_from (Idle c d) (Idle e f) h =
    let both = and_parts _ _ h in let x = eqb-true c e both.0 in let y = eqb-true d f both.1 in cc
lit_from (Full q) (Full r) h = ap Full (eqb-true q r h)
lit_from (Has q d) (Has r e) h =
    let both = and_parts _ _ h in let x = eqb-true q r both.0 in let y = eqb-true d e both.1 in cc
lit_from (Lacks q d) (Lacks r e) h =
    let both = and_parts _ _ h in let x = eqb-true q r both.0 in let y = eqb-true d e both.1 in cc
lit_from _ _ h = cc

-- a literal of a path meets what all literals of the path meet
pub on_path_holds : (H : Lit → Type 0) (path : List Lit) (l : Lit) → is_on_path path l ≡ true → AllOf H path → H l
on_path_holds H [] l on all = cc
on_path_holds H (m ∷ ms) l on all =
    elim (or_cases (are_same m l) (is_on_path ms l) on) [
      | inl same ↦ subst H (lit_from m l same) all.0
      | inr rest ↦ on_path_holds H ms l rest all.1
    ]

pub all_on_path_hold : (H : Lit → Type 0) (path ls : List Lit) → are_on_path path ls ≡ true → AllOf H path → AllOf H ls
all_on_path_hold H path [] on all = tt
all_on_path_hold H path (l ∷ ls) on all =
    let both = and_parts (is_on_path path l) (are_on_path path ls) on in
    (on_path_holds H path l both.0 all, all_on_path_hold H path ls both.1 all)

all-append : (H : Lit → Type 0) (xs ys : List Lit) → AllOf H xs → AllOf H ys → AllOf H (xs ++ ys)
all-append H [] ys on_xs on_ys = on_ys
all-append H (x ∷ xs) ys on_xs on_ys = (on_xs.0, all-append H xs ys on_xs.1 on_ys)

-- the rule that is found is one of them
pub found_in : (rs : List Inference) (name : RuleName) (via : Option ℕ) (r : Inference) →
    find_rule rs name via ≡ Some r → IsIn rs r
found_in [] name via r h = cc
found_in (x ∷ xs) name via r h =
    elim (cases_Bool (is_named x name via)) [
      | inl hit ↦ inl (let e : Some x ≡ Some r = sym (cond-true _ (Some x) (find_rule xs name via) hit) ∙ h in cc)
      | inr miss ↦ inr (found_in xs name via r (sym (cond-false _ (Some x) (find_rule xs name via) miss) ∙ h))
    ]

-- a reading of literals that answers the rules, meets no clash and no sum
pub record IsReading (it : Designed) (lemmas : List Lemma) (H : Lit → Type 0) : Type 0 where
  pub opposed_fail : (l m : Lit) → are_opposed l m ≡ true → H l → H m → ⊥
  pub outside_fails : (l : Lit) → is_outside it l ≡ true → H l → ⊥
  pub offered_fails : (c : ℕ) → is_offered it c ≡ true → AllOf H (idle_all (colours_at it.colours) c) → ⊥
  pub rule_holds : (l : Lit) (r : Inference) → IsIn (rules_of it l) r → H l → SomeOf H r.alternatives
  pub sum_fails : (path : List Lit) (items : List Item) → Closes it lemmas path items → AllOf H path → ⊥

-- none of the earlier goals is met
abbrev pub EarlierFail : (Lit → Type 0) → List Lit → Type 0
EarlierFail H before = (k : ℕ) (g : Lit) → slice_get before k ≡ Some g → H g → ⊥

module _ (it : Designed) (lemmas : List Lemma) (H : Lit → Type 0) (reading : IsReading it lemmas H) where
  -- paths none of which is met
  abbrev AllFail : List (List Lit) → Type 0
  AllFail [] = Unit {0}
  AllFail (path ∷ paths) = (AllOf H path → ⊥) × AllFail paths

  fail_left : (xs ys : List (List Lit)) → AllFail (xs ++ ys) → AllFail xs
  fail_left [] ys all = tt
  fail_left (x ∷ xs) ys all = (all.0, fail_left xs ys all.1)

  fail_right : (xs ys : List (List Lit)) → AllFail (xs ++ ys) → AllFail ys
  fail_right [] ys all = all
  fail_right (x ∷ xs) ys all = fail_right xs ys all.1

  no_alternative : (path : List Lit) (alternatives : List (List Lit)) →
      AllFail (longer path alternatives) → AllOf H path → SomeOf H alternatives → ⊥
  no_alternative path [] fails all some = some
  no_alternative path (a ∷ others) fails all some =
      elim some [
        | inl holds ↦ fails.0 (all-append H path a all holds)
        | inr rest ↦ no_alternative path others fails.1 all rest
      ]

  clash_fails : (path : List Lit) (l : Lit) (other : Option Lit) → Clashes it path l other → AllOf H path → ⊥
  clash_fails path l None are all = reading.outside_fails l are.1 (on_path_holds H path l are.0 all)
  clash_fails path l (Some m) are all =
      reading.opposed_fail l m are.1.1 (on_path_holds H path l are.0 all) (on_path_holds H path m are.1.0 all)

  -- a step refutes its path where the paths that it leaves are refuted
  step_fails : (before path : List Lit) (step : Step) (more : List (List Lit)) → EarlierFail H before →
      Refutes it lemmas before path step more → AllFail more → AllOf H path → ⊥
  step_fails before path (Split name on via kids) more earlier is fails all =
      no_alternative path is.rule.alternatives (subst AllFail (sym is.left) fails) all
      (reading.rule_holds on is.rule (found_in (rules_of it on) name via is.rule is.found)
      (on_path_holds H path on is.here all))
  step_fails before path (Clash l other) more earlier is fails all = clash_fails path l other is.0 all
  step_fails before path (Eager c) more earlier is fails all =
      reading.offered_fails c is.1.0 (all_on_path_hold H path (idle_all (colours_at it.colours) c) is.0 all)
  step_fails before path (Sum items) more earlier is fails all = reading.sum_fails path items is.0 all
  step_fails before path (Cite k) more earlier is fails all =
      earlier k is.0.goal is.0.earlier (on_path_holds H path is.0.goal is.0.here all)
  step_fails before path Open more earlier is fails all = is

  paths_fail : (before : List Lit) → EarlierFail H before → (steps : List Step) (paths : List (List Lit)) →
      AllRefuted it lemmas before steps paths → AllFail paths
  paths_fail before earlier [] [] all = tt
  paths_fail before earlier [] (path ∷ paths) all = absurd all
  paths_fail before earlier (step ∷ steps) [] all = absurd all
  paths_fail before earlier (step ∷ steps) (path ∷ paths) all =
      let rest = paths_fail before earlier steps (all.0 ++ paths) all.1.1 in
      (step_fails before path step all.0 earlier all.1.0 (fail_left all.0 paths rest), fail_right all.0 paths rest)

  -- a goal is not met
  pub goal_fails : (before : List Lit) (gs : List Refutation) → EarlierFail H before →
      GoalsRefuted it lemmas before gs → (l : Lit) → is_on_path (literals gs) l ≡ true → H l → ⊥
  goal_fails before [] earlier all l is holds = true_false is where
    true_false : false ≡ true → ⊥
    true_false e = cc
  goal_fails before (g ∷ gs) earlier all l is holds =
      let here : H g.lit → ⊥ = λ h. (paths_fail before earlier g.steps ((g.lit ∷ []) ∷ []) all.0).0 (h, tt) in
      elim (or_cases (are_same g.lit l) (is_on_path (literals gs) l) is) [
        | inl same ↦ here (subst H (sym (lit_from g.lit l same)) holds)
        | inr later ↦ goal_fails (before ++ g.lit ∷ []) gs (λ k x at. elim (last_or_before before g.lit x k at)
            [ inl among ↦ earlier k x among | inr last ↦ λ h. here (subst H (sym last) h) ]) all.1 l later holds
      ] where
        last_or_before : (xs : List Lit) (y x : Lit) (k : ℕ) →
            slice_get (xs ++ y ∷ []) k ≡ Some x → (slice_get xs k ≡ Some x) ⊎ (y ≡ x)
        last_or_before [] y x zero at = inr (cc)
        last_or_before [] y x (suc k) at = cc
        last_or_before (z ∷ zs) y x zero at = inl at
        last_or_before (z ∷ zs) y x (suc k) at = last_or_before zs y x k at
