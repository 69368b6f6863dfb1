use Rattle.std.proofs.Common.{take}
use Rattle.xm_lp.specs.Inner.Part.{ArePartlyCleared}
use Rattle.xm_lp.proofs.table.clear_rows.Given as goal

abbrev pub invariant-loop-h : goal.invariant-loop-h
invariant-loop-h l = ArePartlyCleared l.fn.rows.items l.rows.items l.i l.column (take l.h-index l.list)
