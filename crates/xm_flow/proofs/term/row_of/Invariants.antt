use Rattle.std.proofs.Common.{take}
use Rattle.xm_flow.specs.Inner.Building.{IsSum}
use Rattle.xm_flow.proofs.term.row_of.Given as goal

abbrev pub invariant-loop-i : goal.invariant-loop-i
invariant-loop-i l = IsSum (take l.i l.terms) l.entries.items
