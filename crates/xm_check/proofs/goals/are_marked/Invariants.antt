use Rattle.std.proofs.Common.{◌≡◌, drop}
use Rattle.xm_check.proofs.goals.are_marked.Given as goal
use Rattle.xm_check.specs.Inner.Marked.{are_marked_at}

abbrev pub invariant-loop-k : goal.invariant-loop-k
invariant-loop-k l = are_marked_at l.marks l.channel l.colours ≡ are_marked_at l.marks l.channel (drop l.k l.colours)
