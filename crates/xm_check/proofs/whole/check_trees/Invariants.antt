use Rattle.std.proofs.Common.{◌≡◌, [], drop, length, map, take}
use Rattle.xm_check.proofs.whole.check_trees.Given as goal
use Rattle.xm_check.specs.Break.{trees_test}
use Rattle.xm_flow.specs.ValidLemma.{lemma_of}
use Rattle.xm_proof.specs.Argument.{refutation_of}
use Rattle.xm_proof.specs.Sums.{no_sums}
use Rattle.xm_proof.specs.Tests.{queue_columns}
use Rattle.xm_proof.specs.declared.proof.Goal.{Goal}

abbrev pub invariant-loop-k : goal.invariant-loop-k
invariant-loop-k l = record {
  same :
      trees_test l.design (map lemma_of l.lemmas) [] 0 (map refutation_of l.goals)
      ≡ trees_test l.design (map lemma_of l.lemmas) (map (λ (goal : Goal). goal.lit) (take l.k l.goals)) l.k (map refutation_of (drop l.k l.goals));
  sums : l.sums ≡ no_sums (length (queue_columns l.design));
}
