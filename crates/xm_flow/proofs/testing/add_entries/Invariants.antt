use Rattle.std.proofs.Common.{◌+◌, take}
use Rattle.xm_flow.specs.Inner.Testing.{AreAdded}
use Rattle.xm_flow.specs.Slots.{AreBelow}
use Rattle.xm_flow.proofs.testing.add_entries.Given as goal

abbrev pub invariant-loop-entry : goal.invariant-loop-entry
invariant-loop-entry l = record {
  added : AreAdded l.n l.factor (take l.entry-index l.entries) l.fn.slots l.slots;
  below : AreBelow (l.n + 1) l.fn.slots → AreBelow (l.n + 1) l.slots;
}
