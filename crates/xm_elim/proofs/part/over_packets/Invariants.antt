use Rattle.std.proofs.Common.{◌≡◌, take}
use Rattle.xm_elim.specs.Inner.Places.{lowered}
use Rattle.xm_elim.proofs.part.over_packets.Given as goal

abbrev pub invariant-loop-entry : goal.invariant-loop-entry
invariant-loop-entry l = l.entries.items ≡ lowered l.moves l.base (take l.entry-index l.entry-items)
