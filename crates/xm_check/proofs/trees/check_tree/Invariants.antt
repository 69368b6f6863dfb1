use Rattle.std.proofs.Common.{◌≡◌, [], ◌∷◌, drop, length, map, reverse}
use Rattle.xm_check.specs.Break as broken
use Rattle.xm_check.specs.Inner.Walking.{IsWalking, paths_of}
use Rattle.xm_flow.specs.ValidLemma as lemmas
use Rattle.xm_proof.specs.Argument as argument
use Rattle.xm_proof.specs.Sums.{no_sums}
use Rattle.xm_proof.specs.Tests.{queue_columns}
use Rattle.xm_proof.specs.declared.proof.Goal.{Goal}
use Rattle.xm_check.proofs.trees.check_tree.Given as goal

abbrev pub invariant-loop-i : goal.invariant-loop-i
invariant-loop-i l = record {
  same :
      broken.steps_test l.given.design.now (map lemmas.lemma_of l.given.lemmas.now) (map (λ (goal : Goal). goal.lit) l.given.before.now) l.k 0 (map argument.step_of l.nodes) ((l.fn.lit ∷ []) ∷ [])
      ≡ broken.steps_test l.given.design.now (map lemmas.lemma_of l.given.lemmas.now) (map (λ (goal : Goal). goal.lit) l.given.before.now) l.k l.i (map argument.step_of (drop l.i l.nodes)) (paths_of l.walk.path.items (reverse l.walk.left.items));
  walk : IsWalking l.walk;
  sums : l.walk.sums ≡ no_sums (length (queue_columns l.given.design.now));
}
