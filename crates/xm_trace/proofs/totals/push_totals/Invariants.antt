use Rattle.std.proofs.Common.{◌≡◌, ◌++◌}
use Rattle.xm_trace.specs.Sums.{sum_at}
use Rattle.xm_trace.specs.RunTextState.{channel_totals}
use Rattle.xm_trace.proofs.totals.push_totals.Given as goal

abbrev pub invariant-loop-d : goal.invariant-loop-d
invariant-loop-d l = l.totals.items ≡ l.initial.totals.items ++ channel_totals (sum_at l.sums l.colours) l.channel l.d
