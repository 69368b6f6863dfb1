use Rattle.std.proofs.Common.{take}
use Rattle.xm_check.specs.Inner.Queues.{IsOver}
use Rattle.xm_check.proofs.lemmas.are_over.Given as goal

abbrev pub invariant-loop-entry : goal.invariant-loop-entry
invariant-loop-entry l = IsOver l.columns (take l.entry-index l.entries)
