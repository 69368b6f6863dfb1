use Rattle.std.proofs.Common.{take}
use Rattle.xm_design.specs.Tasks.{AreTasks}
use Rattle.xm_design.proofs.tasks.tasks_of.Given as goal

abbrev pub invariant-loop-signal : goal.invariant-loop-signal
invariant-loop-signal l = AreTasks l.net (take l.signal-index l.order) l.tasks.items
