use Rattle.std.proofs.Common.{◌≡◌, take}
use Rattle.xm_board.proofs.starting.copied.Given as goal

abbrev pub invariant-loop-k : goal.invariant-loop-k
invariant-loop-k l = l.made.items ≡ take l.k l.from
