use Rattle.std.proofs.Common.{◌≡◌, ◌++◌, ℕ, List, Result, Ok, reverse, length, map, sym, ap, ◌∙◌, subst}
use Rattle.xm_check.specs.Break.{step_test}
use Rattle.xm_check.proofs.Going.{left_at, left_nested, left_paths}
use Rattle.xm_check.specs.Inner.Walking.{AreNested, paths_of}
use Rattle.xm_check.specs.declared.trees.Left.{Left}
use Rattle.xm_lits.specs.declared.literal.Lit.{Lit}
use Rattle.xm_lits.specs.Inference.{alternatives_of}
use Rattle.xm_flow.specs.ValidLemma as lemmas
use Rattle.xm_proof.specs.Argument as argument
use Rattle.xm_proof.specs.Tests.{longer}
use Rattle.xm_proof.specs.declared.proof.Goal.{Goal}
use Rattle.xm_model.specs.Steps.{◌>>=◌}
use Rattle.xm_proof.specs.declared.verdict.Reason.{Reason}
use Rattle.xm_check.proofs.trees.check_here.Goals as goal

pub returns-clause-verdict : goal.returns-clause-verdict
returns-clause-verdict c =
    let path = c.args.path.items in
    let alternatives = c.in_ok-step.step.alternatives.items in
    let base : c.in_ok-base.base ≡ length path = c.in_ok-base.ensures ∙ c.len.ensures in
    let more : reverse c.leave.new.left.items ≡ map (left_at (length path)) alternatives ++ reverse c.args.left.items = c.in_ok-leave.ensures ∙ ap (λ (n : ℕ). map (left_at n) alternatives ++ reverse c.args.left.items) base in
    let it = c.args.given.now.design.now in
    let lemmas = map lemmas.lemma_of c.args.given.now.lemmas.now in
    let before : List Lit = map (λ (goal : Goal). goal.lit) c.args.given.now.before.now in
    let P : List Lit → Type 0 = λ p. step_test it lemmas before p (argument.step_of c.args.node.now) ≡ Ok (longer p (alternatives_of alternatives)) in
    let tested = subst P c.as_slice.ensures c.in_ok-step.ensures.verdict in
    ap (λ (r : Result (List (List Lit)) Reason). r >>= (λ (ps : List (List Lit)). Ok (ps ++ paths_of path (reverse c.args.left.items)))) tested
    ∙ ap (λ (ps : List (List Lit)). Ok ps) (sym (ap (paths_of path) more ∙ left_paths path alternatives (reverse c.args.left.items)))

pub returns-clause-walk : goal.returns-clause-walk
returns-clause-walk c =
    let path = c.args.path.items in
    let alternatives = c.in_ok-step.step.alternatives.items in
    let base : c.in_ok-base.base ≡ length path = c.in_ok-base.ensures ∙ c.len.ensures in
    let more : reverse c.leave.new.left.items ≡ map (left_at (length path)) alternatives ++ reverse c.args.left.items = c.in_ok-leave.ensures ∙ ap (λ (n : ℕ). map (left_at n) alternatives ++ reverse c.args.left.items) base in
    subst (λ (ls : List Left). AreNested (length path) ls) (sym more) (left_nested path alternatives (reverse c.args.left.items) c.requires.nested)
