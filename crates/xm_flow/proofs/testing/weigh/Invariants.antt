use Rattle.std.proofs.Common.{◌+◌, take}
use Rattle.xm_flow.specs.Inner.Testing.{AreWeighed}
use Rattle.xm_flow.specs.Slots.{AreBelow}
use Rattle.xm_flow.proofs.testing.weigh.Given as goal

abbrev pub invariant-loop-part : goal.invariant-loop-part
invariant-loop-part l = record { weighed : AreWeighed l.n l.flow (take l.part-index l.parts) l.slots l.total; below : AreBelow (l.n + 1) l.slots }
