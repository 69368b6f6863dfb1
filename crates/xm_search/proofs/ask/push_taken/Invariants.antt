use Rattle.std.proofs.Common.{◌≡◌, ◌++◌, take}
use Rattle.xm_search.specs.Inner.Taken.{all_taken}
use Rattle.xm_search.proofs.ask.push_taken.Given as goal

abbrev pub invariant-loop-i : goal.invariant-loop-i
invariant-loop-i l = l.items.items ≡ l.fn.items.items ++ all_taken (take l.i l.names) (take l.i l.multipliers)
