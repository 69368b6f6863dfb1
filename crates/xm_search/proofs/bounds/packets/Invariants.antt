use Rattle.std.proofs.Common.{◌≡◌, take}
use Rattle.xm_proof.specs.Tests.{entries_where}
use Rattle.xm_search.specs.Inner.Named.{is_counted}
use Rattle.xm_search.proofs.bounds.packets.Given as goal

abbrev pub invariant-loop-j : goal.invariant-loop-j
invariant-loop-j l = l.entries.items ≡ entries_where (is_counted l.q l.colour) l.value 0 (take l.j l.pairs)
