use Rattle.std.proofs.Common.{◌≡◌, ◌++◌, ◌<◌, length, map, reverse}
use Rattle.xm_check.proofs.Going.{left_at}
use Rattle.xm_check.proofs.trees.leave.Given as goal

abbrev pub invariant-loop-alternatives : goal.invariant-loop-alternatives
invariant-loop-alternatives l =
    (map (left_at l.base) l.alternatives.items ++ reverse l.left.items ≡ map (left_at l.base) l.initial.alternatives.items ++ reverse l.initial.left.items)
    × (length l.alternatives.items < 4294967296)

abbrev pub decreases-loop-alternatives : goal.decreases-loop-alternatives
decreases-loop-alternatives l = length l.alternatives.items
