use Rattle.std.proofs.Common.{◌≡◌, ◌≤◌, take}
use Rattle.xm_running.proofs.ring.Ring.filled.Given as goal

abbrev pub invariant-loop-packet : goal.invariant-loop-packet
invariant-loop-packet l = record { items : l.ring.items ≡ take l.packet-index l.packets; room : l.places ≤ l.ring.room }
