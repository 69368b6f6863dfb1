use Rattle.std.proofs.Common.{ℕ, suc, ◌∷◌, List, drop, reverse, map, sym, ap, ◌∙◌, add-one, drop-cons}
use Rattle.xm_check.specs.Break.{steps_test}
use Rattle.xm_check.proofs.Going.{goes_on}
use Rattle.xm_check.specs.Inner.Walking.{paths_of}
use Rattle.xm_lits.specs.declared.literal.Lit.{Lit}
use Rattle.xm_flow.specs.ValidLemma as lemmas
use Rattle.xm_proof.specs.Argument as argument
use Rattle.xm_proof.specs.declared.proof.Goal.{Goal}
use Rattle.xm_proof.specs.declared.proof.Node.{Node}
use Rattle.xm_check.proofs.trees.check_tree.Goals as goal

pub loop-i-preserved : goal.loop-i-preserved
loop-i-preserved c =
    let it = c.args.given.now.design.now in
    let lemmas = map lemmas.lemma_of c.args.given.now.lemmas.now in
    let before : List Lit = map (λ (goal : Goal). goal.lit) c.args.given.now.before.now in
    let nodes = c.args.nodes.now in
    let i = c.loop-i.i in
    let paths = paths_of c.loop-i.walk.path.items (reverse c.loop-i.walk.left.items) in
    let more = paths_of c.in-Ok-check_next.next.path.items (reverse c.in-Ok-check_next.next.left.items) in
    let node = c.index-nodes-i.result in
    record {
      same =
          c.loop-i.invariant.same
          ∙ ap (λ (l : List Node). steps_test it lemmas before c.args.k i (map argument.step_of l) paths) (drop-cons nodes i node c.loop-i-test.true ∙ ap (λ (n : Node). n ∷ drop (suc i) nodes) (sym c.index-nodes-i.is))
          ∙ goes_on it lemmas before c.args.k i (argument.step_of node) (map argument.step_of (drop (suc i) nodes)) paths more c.in-Ok-check_next.ensures.verdict
          ∙ ap (λ (n : ℕ). steps_test it lemmas before c.args.k n (map argument.step_of (drop n nodes)) more) (sym (add-one i));
      walk = c.in-Ok-check_next.ensures.walk;
      sums = c.in-Ok-check_next.ensures.sums;
    }
