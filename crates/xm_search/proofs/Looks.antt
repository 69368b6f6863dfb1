-- What is seen on a path: what ends it, and what is left where nothing does.
use Rattle.std.proofs.Common.{◌≡◌, ℕ, suc, zero, ◌<◌, List, [], ◌∷◌, Option, Some, None, true, false, length, refl, sym, ◌∙◌, ap, subst, inl, inr, slice_get}
use Rattle.std.proofs.lemmas.Bool.{and_from, and_parts, both_ways, cases_lt, eq-eqb, or_cases, or_left, or_parts, or_right}
use Rattle.std.proofs.lemmas.Option.{slice_get_past}
use Rattle.xm_design.specs.Designed.{Designed}
use Rattle.xm_flow.specs.ValidLemma.{Lemma}
use Rattle.xm_lits.specs.Clashes.{is_outside}
use Rattle.xm_lits.specs.Inference.{Inference, rules_of}
use Rattle.xm_lits.specs.Paths.{IsClashOn, are_on_path, are_same, is_on_path, opposed_to}
use Rattle.xm_lits.specs.declared.conflict.Clash.TheVariants as conflict
use Rattle.xm_lits.specs.declared.literal.Lit.{Lit}
use Rattle.xm_lits.specs.declared.literal.Lit.TheVariants.{Stuck, Dead, Idle, Full, Has, Lacks}
use Rattle.xm_proof.specs.Argument.{Cite, Clash, Split, Sum}
use Rattle.xm_proof.specs.Lemmas.Refuting.{lit_from}
use Rattle.xm_proof.specs.Tests.{find_rule, longer}
use Rattle.xm_proof.specs.Valid.{Cites, Closes}
use Rattle.xm_proof.specs.declared.proof.Item.{Item}
use Rattle.xm_search.specs.Inner.Choosing.{AllAnswered, AllGoOn, GoOn, HaveAlternatives, IsChosen, all_answered, all_have, any_last, is_last, some_last}
use Rattle.xm_search.specs.Inner.Fitting.{FitsItems}
use Rattle.xm_search.specs.Inner.Looking.{EndsPath, IsConsistent, any_goal}
use Rattle.xm_search.specs.Partial.{IsUndecided}
use Rattle.xm_search.specs.Trees.{HoldsGoal, IsStep, has_alternative, left_by}

pub same_lit : (l : Lit) → are_same l l ≡ true
same_lit (Stuck c) = eq-eqb c c refl
same_lit (Dead c d) = and_from _ _ (eq-eqb c c refl) (eq-eqb d d refl)
same_lit (Idle c d) = and_from _ _ (eq-eqb c c refl) (eq-eqb d d refl)
same_lit (Full q) = eq-eqb q q refl
same_lit (Has q d) = and_from _ _ (eq-eqb q q refl) (eq-eqb d d refl)
same_lit (Lacks q d) = and_from _ _ (eq-eqb q q refl) (eq-eqb d d refl)

pub on_at : (path : List Lit) (k : ℕ) (l : Lit) → slice_get path k ≡ Some l → is_on_path path l ≡ true
on_at [] k l h = cc
on_at (m ∷ ms) zero l h = or_left (are_same m l) (is_on_path ms l) (let e : m ≡ l = cc in subst (λ (x : Lit). are_same m x ≡ true) e (same_lit m))
on_at (m ∷ ms) (suc k) l h = or_right (are_same m l) (is_on_path ms l) (on_at ms k l h)

-- what is opposed to a literal is on the path
pub opposed_within : (path : List Lit) (j : ℕ) (l : Lit) → opposed_to l (slice_get path j) ≡ true → j < length path
opposed_within path j l h =
    elim (cases_lt j (length path)) [
      | inl within ↦ within
      | inr past ↦ absurd (let none = ap (opposed_to l) (slice_get_past path j past) in cc)
    ]

module _ (it : Designed) (lemmas : List Lemma) (before path : List Lit) where
  pub pair_ends : (i j : ℕ) (l m : Lit) → slice_get path i ≡ Some l → slice_get path j ≡ Some m → IsClashOn it path (conflict.Pair i j) → EndsPath it lemmas before path (Clash l (Some m))
  pair_ends i j l m at_i at_j is =
      let e : Some is.lit ≡ Some l = sym is.there ∙ at_i in
      let same : is.lit ≡ l = cc in
      let met : opposed_to is.lit (slice_get path j) ≡ true = is.met in
      let opposed = ap (λ (o : Option Lit). opposed_to l o) (sym at_j) ∙ ap (λ (x : Lit). opposed_to x (slice_get path j)) (sym same) ∙ met in
      record { is = ((on_at path i l at_i, (on_at path j m at_j, opposed)), refl); last = refl; shut = refl; fits = tt }

  pub outside_ends : (i : ℕ) (l : Lit) → slice_get path i ≡ Some l → IsClashOn it path (conflict.Outside i) → EndsPath it lemmas before path (Clash l None)
  outside_ends i l at_i is =
      let e : Some is.lit ≡ Some l = sym is.there ∙ at_i in
      let same : is.lit ≡ l = cc in
      record { is = ((on_at path i l at_i, subst (λ (x : Lit). is_outside it x ≡ true) same is.met), refl); last = refl; shut = refl; fits = tt }

  pub cite_ends : (k : ℕ) → Cites before path k → EndsPath it lemmas before path (Cite k)
  cite_ends k is = record { is = (is, refl); last = refl; shut = refl; fits = tt }

  pub sum_ends : (items : List Item) → Closes it lemmas path items → FitsItems items → EndsPath it lemmas before path (Sum items)
  sum_ends items is fits = record { is = (is, refl); last = refl; shut = refl; fits = fits }

  pub rule_ends : (on : Lit) (rule : Inference) (kids : ℕ) → IsChosen it path on rule → rule.alternatives ≡ [] → length rule.alternatives ≡ kids →
      IsConsistent it path → (HoldsGoal before path → ⊥) → EndsPath it lemmas before path (Split rule.name on rule.via kids)
  rule_ends on rule kids chosen none whole consistent no_goal =
      let left : left_by path (find_rule (rules_of it on) rule.name rule.via) ≡ [] =
      ap (λ (o : Option Inference). left_by path o) chosen.found ∙ ap (λ (a : List (List Lit)). longer path a) none in
      record {
        is = (
          record { here = chosen.here; rule = rule; found = chosen.found; whole = whole; left = ap (λ (o : Option Inference). left_by path o) (sym chosen.found) },
          record {
            fresh = λ r is. (let e : Some rule ≡ Some r = sym chosen.found ∙ is in let f : rule ≡ r = cc in subst (λ (x : Inference). has_alternative path x.alternatives ≡ false) f chosen.fresh);
            no_clash = λ holds. both_ways (are_on_path path holds.0) (consistent holds.0 holds.1.0) holds.1.1;
            no_goal = no_goal;
          },
        );
        last = left;
        shut = refl;
        fits = tt;
      }

  pub splits : (on : Lit) (rule : Inference) (kids : ℕ) → IsChosen it path on rule → length rule.alternatives ≡ kids → IsUndecided it before path →
      IsStep it lemmas before path (Split rule.name on rule.via kids)
  splits on rule kids chosen whole undecided = (
    record { here = chosen.here; rule = rule; found = chosen.found; whole = whole; left = ap (λ (o : Option Inference). left_by path o) (sym chosen.found) },
    record {
      fresh = λ r is. (let e : Some rule ≡ Some r = sym chosen.found ∙ is in let f : rule ≡ r = cc in subst (λ (x : Inference). has_alternative path x.alternatives ≡ false) f chosen.fresh);
      no_clash = undecided.no_clash;
      no_goal = undecided.no_goal;
    },
  )

no_goal_at : (path before : List Lit) (k : ℕ) (g : Lit) → any_goal path before ≡ false → slice_get before k ≡ Some g → is_on_path path g ≡ true → ⊥
no_goal_at path [] k g none at here = cc
no_goal_at path (m ∷ ms) zero g none at here =
    let both = or_parts (is_on_path path m) (any_goal path ms) none in
    let e : m ≡ g = cc in
    both_ways (is_on_path path g) (subst (λ (x : Lit). is_on_path path x ≡ false) e both.0) here
no_goal_at path (m ∷ ms) (suc k) g none at here =
    let both = or_parts (is_on_path path m) (any_goal path ms) none in no_goal_at path ms k g both.1 at here

-- no goal is on the path
pub no_goal_on : (path before : List Lit) → any_goal path before ≡ false → HoldsGoal before path → ⊥
no_goal_on path before none holds = no_goal_at path before holds.0 holds.1.goal none holds.1.earlier holds.1.here

-- each rule of each literal
have_each : (path : List Lit) (rs : List Inference) → all_have path rs ≡ true → HaveAlternatives path rs
have_each path [] all r of = absurd of
have_each path (x ∷ xs) all r of =
    let both = and_parts (has_alternative path x.alternatives) (all_have path xs) all in
    elim of [ inl e ↦ subst (λ (y : Inference). has_alternative path y.alternatives ≡ true) e both.0 | inr t ↦ have_each path xs both.1 r t ]

answered_each : (it : Designed) (path ls : List Lit) → all_answered it path ls ≡ true → (l : Lit) → is_on_path ls l ≡ true → HaveAlternatives path (rules_of it l)
answered_each it path [] all l on = cc
answered_each it path (m ∷ ms) all l on =
    let both = and_parts (all_have path (rules_of it m)) (all_answered it path ms) all in
    elim (or_cases (are_same m l) (is_on_path ms l) on) [
      | inl same ↦ subst (λ (x : Lit). HaveAlternatives path (rules_of it x)) (lit_from m l same) (have_each path (rules_of it m) both.0)
      | inr rest ↦ answered_each it path ms both.1 l rest
    ]

pub answered : (it : Designed) (path : List Lit) → all_answered it path path ≡ true → AllAnswered it path
answered it path all = answered_each it path path all

go_on_each : (rs : List Inference) → some_last rs ≡ false → GoOn rs
go_on_each [] none r of last = absurd of
go_on_each (x ∷ xs) none r of last =
    let both = or_parts (is_last x.alternatives) (some_last xs) none in
    elim of [
      | inl e ↦ (let bad = ap is_last (ap (λ (y : Inference). y.alternatives) e ∙ last) in both_ways (is_last x.alternatives) both.0 bad)
      | inr t ↦ go_on_each xs both.1 r t last
    ]

pub go_on : (it : Designed) (path : List Lit) → any_last it path ≡ false → AllGoOn it path
go_on it [] none l on = cc
go_on it (m ∷ ms) none l on =
    let both = or_parts (some_last (rules_of it m)) (any_last it ms) none in
    elim (or_cases (are_same m l) (is_on_path ms l) on) [
      | inl same ↦ subst (λ (x : Lit). GoOn (rules_of it x)) (lit_from m l same) (go_on_each (rules_of it m) both.0)
      | inr rest ↦ go_on it ms both.1 l rest
    ]

pub undecided : (it : Designed) (before path : List Lit) → IsConsistent it path → any_goal path before ≡ false → AllGoOn it path → IsUndecided it before path
undecided it before path consistent none goes = record {
  no_clash = λ holds. both_ways (are_on_path path holds.0) (consistent holds.0 holds.1.0) holds.1.1;
  no_goal = no_goal_on path before none;
  no_end = λ l rule on of last. goes l on rule of last;
}
