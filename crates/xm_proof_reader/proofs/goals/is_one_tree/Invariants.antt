use Rattle.std.proofs.Common.{◌≡◌, ◌+◌, ◌*◌, ◌≤◌, ◌^◌, map, drop}
use Rattle.xm_proof.specs.Argument.{step_of}
use Rattle.xm_proof.specs.Form.{are_trees}
use Rattle.xm_proof_reader.proofs.goals.is_one_tree.Given as goal

abbrev pub invariant-loop-i : goal.invariant-loop-i
invariant-loop-i l = record {
  same : are_trees 1 (map step_of l.nodes) ≡ are_trees l.left (map step_of (drop l.i l.nodes));
  few : l.left ≤ 1 + l.i * 2 ^ 32;
}
