use Rattle.std.proofs.Common.{List, length, map}
use Rattle.xm_model.specs.Views.{signals_of}
use Rattle.xm_step.specs.Inner.Cells.{HaveGone, HaveNoted}
use Rattle.xm_step.specs.Inner.Kinds.{AreKindsTo, IsAmongBoth, IsAmongQueues}
use Rattle.xm_step.specs.declared.kinds.QueuePlace.{QueuePlace}
use Rattle.xm_step.proofs.advance.advance_kept.Given as goal

abbrev pub invariant-loop-k : goal.invariant-loop-k
invariant-loop-k g l = record {
  gone : HaveGone l.evaluator.net.prims (map g.C.HasCell.cell l.initial.cells) (map g.C.HasCell.cell l.cells) (signals_of l.wires) (IsAmongQueues l.queues l.k);
  noted : HaveNoted l.evaluator.net.prims (map g.C.HasCell.cell l.cells) l.initial.changed l.changed (signals_of l.wires) (IsAmongQueues l.queues l.k);
}

abbrev pub invariant-loop-i : goal.invariant-loop-i
invariant-loop-i g l =
    (queues : List QueuePlace)
    × (AreKindsTo l.evaluator.net.prims (length l.evaluator.net.prims) queues l.others
    × (HaveGone l.evaluator.net.prims (map g.C.HasCell.cell l.fn.cells) (map g.C.HasCell.cell l.cells) (signals_of l.wires) (IsAmongBoth queues l.others l.i)
    × HaveNoted l.evaluator.net.prims (map g.C.HasCell.cell l.cells) l.fn.changed l.changed (signals_of l.wires) (IsAmongBoth queues l.others l.i)))
