use Rattle.std.proofs.Common.{◌≡◌, ◌++◌, length}
use Rattle.xm_model.specs.Naming.{naming_of}
use Rattle.xm_trace.specs.Sums.{sum_at}
use Rattle.xm_trace.specs.Text.{sum_lines}
use Rattle.xm_trace.proofs.text.push_sums.Given as goal

abbrev pub invariant-loop-c : goal.invariant-loop-c
invariant-loop-c l = l.text.items ≡ l.initial.text.items ++ sum_lines (naming_of l.names) (sum_at l.sums (length (naming_of l.names).colours)) l.c
