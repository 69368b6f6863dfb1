use Rattle.std.proofs.Common.{◌≡◌, ◌++◌, take}
use Rattle.xm_order.proofs.ring.append.Given as goal

abbrev pub invariant-loop-it : goal.invariant-loop-it
invariant-loop-it l = l.list.items ≡ l.initial.list.items ++ take l.it-index l.more
