use Rattle.std.proofs.Common.{◌≡◌, take}
use Rattle.std.specs.List.{sum_by}
use Rattle.xm_commands.specs.Inner.Counting.{delivered_by}
use Rattle.xm_commands.proofs.counting.delivered_in.Given as goal

abbrev pub invariant-loop-k : goal.invariant-loop-k
invariant-loop-k l = l.sum ≡ sum_by (delivered_by l.net) (take l.k l.totals)
