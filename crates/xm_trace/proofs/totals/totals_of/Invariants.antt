use Rattle.std.proofs.Common.{◌≡◌}
use Rattle.xm_trace.specs.Sums.{sum_at}
use Rattle.xm_trace.specs.RunTextState.{totals_of}
use Rattle.xm_trace.proofs.totals.totals_of.Given as goal

abbrev pub invariant-loop-c : goal.invariant-loop-c
invariant-loop-c l = l.totals.items ≡ totals_of (sum_at l.sums l.colours) l.colours l.c
