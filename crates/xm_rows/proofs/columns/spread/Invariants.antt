use Rattle.std.proofs.Common.{take}
use Rattle.xm_rows.specs.Columns.{AreSpread, columns_of}
use Rattle.xm_rows.proofs.columns.spread.Given as goal

abbrev pub invariant-loop-entry : goal.invariant-loop-entry
invariant-loop-entry l = AreSpread l.places (take l.entry-index l.entry-items) (columns_of l.fn.columns) (columns_of l.columns)
