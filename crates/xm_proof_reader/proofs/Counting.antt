-- Lemmas: nodes that are counted as trees.
use Rattle.std.proofs.Common.{◌≡◌, ◌<◌, ℕ, zero, suc, List, [], ◌∷◌, map, drop, length, false, refl, sym, arith}
use Rattle.xm_proof.specs.Argument.{step_of}
use Rattle.xm_proof.specs.declared.proof.Node.{Node}
use Rattle.xm_proof.specs.Form.{are_trees}

-- no tree is left, but nodes are
none_left : (nodes : List Node) (i : ℕ) → i < length nodes → are_trees 0 (map step_of (drop i nodes)) ≡ false
none_left [] i lt = absurd (omega arith)
none_left (n ∷ ns) zero lt = refl
none_left (n ∷ ns) (suc i) lt = none_left ns i (omega arith)

pub ended : (nodes : List Node) (i left : ℕ) → i < length nodes → left ≡ 0 → false ≡ are_trees left (map step_of (drop i nodes))
ended nodes i left lt is = rw is (sym (none_left nodes i lt))
