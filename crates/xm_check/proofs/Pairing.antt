-- Goals of the code and those of an argument.
use Rattle.std.proofs.Common.{◌≡◌, ℕ, ◌<◌, ◌^◌, Ok, Err, List, [], ◌∷◌, Bool, length, map, refl, sym, ap, subst, All}
use Rattle.std.proofs.lemmas.List.{length-map}
use Rattle.std.proofs.lemmas.List.Elements.{All-cons, All-head, All-nil, All-tail}
use Rattle.xm_check.specs.Break.{goals_test, pairs_test}
use Rattle.xm_design.specs.Designed.{Designed}
use Rattle.xm_lits.specs.declared.literal.Lit.{Lit}
use Rattle.xm_model.specs.Steps.{check}
use Rattle.xm_proof.specs.Argument.{Refutation, literals, refutation_of, step_of}
use Rattle.xm_proof.specs.Tests.{move_columns}
use Rattle.xm_proof.specs.Valid.{all_goals}
use Rattle.xm_proof.specs.declared.proof.Goal.{Goal}
use Rattle.xm_proof.specs.declared.verdict.ProofPath.{ProofPath}
use Rattle.xm_proof.specs.declared.verdict.ProofPath.TheVariants as place
use Rattle.xm_proof.specs.declared.verdict.Reason.{Reason}
use Rattle.xm_proof.specs.declared.verdict.Reason.TheVariants as reason

abbrev pub lits_of : List Goal → List Lit
lits_of goals = map (λ (goal : Goal). goal.lit) goals

same_lits : (goals : List Goal) → literals (map refutation_of goals) ≡ lits_of goals
same_lits [] = refl
same_lits (g ∷ gs) = ap (λ (ls : List Lit). g.lit ∷ ls) (same_lits gs)

pub goal_breaks : (it : Designed) (goals : List Goal) (x : ProofPath × Reason) → goals_test it [] 0 (lits_of goals) ≡ Err x →
    pairs_test it (map refutation_of goals) ≡ Err x
goal_breaks it goals x breaks = rw (same_lits goals, breaks) refl

pub goals_pass : (it : Designed) (goals : List Goal) (all : Bool) → goals_test it [] 0 (lits_of goals) ≡ Ok tt →
    all ≡ all_goals (lits_of goals) (move_columns it) → pairs_test it (map refutation_of goals) ≡ check all (place.Goals, reason.Missing)
goals_pass it goals all passes same = rw (same_lits goals, passes, sym same) refl

pub short_trees : (goals : List Goal) → All (λ g. length g.steps < 2 ^ 32) (map refutation_of goals) → All (λ g. length g.tree.items < 2 ^ 32) goals
short_trees [] short = All-nil (λ (g : Goal). length g.tree.items < 2 ^ 32)
short_trees (g ∷ gs) short =
    let P : Refutation → Type 0 = λ r. length r.steps < 2 ^ 32 in
    All-cons (λ (h : Goal). length h.tree.items < 2 ^ 32) g gs
    (subst (λ (n : ℕ). n < 2 ^ 32) (length-map g.tree.items step_of) (All-head P (refutation_of g) (map refutation_of gs) short))
    (short_trees gs (All-tail P (refutation_of g) (map refutation_of gs) short))
