use Rattle.std.proofs.Common.{◌≡◌, ◌++◌, take}
use Rattle.xm_search.specs.Inner.Taken.{lows_taken}
use Rattle.xm_search.proofs.ask.push_lows.Given as goal

abbrev pub invariant-loop-k : goal.invariant-loop-k
invariant-loop-k l = l.items.items ≡ l.fn.items.items ++ lows_taken (take l.k l.pairs) (take l.k l.lows)
