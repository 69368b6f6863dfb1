use Rattle.std.proofs.Common.{◌≡◌, ◌++◌, ◌-◌, [], drop, length}
use Rattle.xm_lits.specs.Inference.{alternatives_of}
use Rattle.xm_proof.specs.Tests.{longer}
use Rattle.xm_search.specs.Inner.Growing.{stacked}
use Rattle.xm_search.proofs.growth.push_kids.Given as goal

abbrev pub invariant-loop-i : goal.invariant-loop-i
invariant-loop-i l =
    stacked l.leaves.items [] ≡ longer l.path (alternatives_of (drop (length l.alternatives - l.i) l.alternatives)) ++ stacked l.fn.leaves.items []
