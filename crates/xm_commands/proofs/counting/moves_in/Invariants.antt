use Rattle.std.proofs.Common.{◌≡◌, take}
use Rattle.std.specs.List.{sum_by}
use Rattle.xm_commands.specs.Inner.Counting.{count_of}
use Rattle.xm_commands.proofs.counting.moves_in.Given as goal

abbrev pub invariant-loop-k : goal.invariant-loop-k
invariant-loop-k l = l.sum ≡ sum_by count_of (take l.k l.totals)
