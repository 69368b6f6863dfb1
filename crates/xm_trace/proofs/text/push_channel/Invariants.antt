use Rattle.std.proofs.Common.{◌≡◌, ◌++◌, length}
use Rattle.xm_model.specs.Naming.{naming_of}
use Rattle.xm_trace.specs.Sums.{sum_at}
use Rattle.xm_trace.specs.Text.{channel_sums}
use Rattle.xm_trace.proofs.text.push_channel.Given as goal

abbrev pub invariant-loop-d : goal.invariant-loop-d
invariant-loop-d l = l.text.items ≡ l.initial.text.items ++ channel_sums (naming_of l.names) (sum_at l.sums (length (naming_of l.names).colours)) l.channel l.d
