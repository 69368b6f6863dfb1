use Rattle.std.proofs.Common.{◌≡◌, [], drop, map, take}
use Rattle.xm_check.proofs.goals.mark_goals.Given as goal
use Rattle.xm_check.specs.Break.{goals_test}
use Rattle.xm_check.specs.Inner.Marked.{AreMarks}
use Rattle.xm_proof.specs.declared.proof.Goal.{Goal}

abbrev pub invariant-loop-k : goal.invariant-loop-k
invariant-loop-k l = record {
  marks : AreMarks l.design.net.channels (map (λ (goal : Goal). goal.lit) (take l.k l.goals)) l.marks;
  same :
      goals_test l.design [] 0 (map (λ (goal : Goal). goal.lit) l.goals)
      ≡ goals_test l.design (map (λ (goal : Goal). goal.lit) (take l.k l.goals)) l.k (map (λ (goal : Goal). goal.lit) (drop l.k l.goals));
}
