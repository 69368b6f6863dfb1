use Rattle.std.proofs.Common.{◌≡◌, ◌+◌, ◌<◌, ℕ, take}
use Rattle.xm_trace.specs.Sums.{sum_at, sum_in}
use Rattle.xm_trace.proofs.sums.count_moves.Given as goal

abbrev pub invariant-loop-it : goal.invariant-loop-it
invariant-loop-it l = (c d : ℕ) → c < l.channels → d < l.colours → sum_at l.sums l.colours c d ≡ sum_in (take l.it-index l.moves) c d + sum_at l.initial.sums l.colours c d
