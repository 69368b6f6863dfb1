use Rattle.std.proofs.Common.{take}
use Rattle.xm_lp.specs.Inner.Table.{tableau_of}
use Rattle.xm_lp.proofs.Ordering.{IsBestOf}
use Rattle.xm_lp.proofs.table.pivot_row.Given as goal

abbrev pub invariant-loop-row : goal.invariant-loop-row
invariant-loop-row l = IsBestOf (tableau_of l.table) l.column (take l.row-index l.row-items) l.best
