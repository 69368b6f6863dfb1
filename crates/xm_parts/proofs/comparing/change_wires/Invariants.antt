use Rattle.std.proofs.Common.{◌≡◌, ◌≤◌, length}
use Rattle.xm_parts.specs.Changing.{AreWireChanges}
use Rattle.xm_parts.proofs.comparing.change_wires.Given as goal

abbrev pub invariant-loop-k : goal.invariant-loop-k
invariant-loop-k l = record {
  wires : AreWireChanges l.old l.new l.k l.out.items;
  few : length l.out.items ≤ l.k;
  room : l.out.room ≡ l.initial.out.room;
}
