use Rattle.std.proofs.Common.{map}
use Rattle.xm_model.specs.Component.{component_of}
use Rattle.xm_step.specs.Inner.Kinds.{AreKindsTo}
use Rattle.xm_step.proofs.kinds.kinds_of.Given as goal

abbrev pub invariant-loop-p : goal.invariant-loop-p
invariant-loop-p l = AreKindsTo (map component_of l.prims) l.p l.kinds.queues.items l.kinds.others.items
