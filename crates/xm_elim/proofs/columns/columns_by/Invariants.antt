use Rattle.std.proofs.Common.{◌≡◌, length, take}
use Rattle.xm_elim.specs.Inner.Columns.{Covers}
use Rattle.xm_rows.specs.Columns.{columns_of}
use Rattle.xm_elim.proofs.columns.columns_by.Given as goal

abbrev pub invariant-loop-i : goal.invariant-loop-i
invariant-loop-i l = record { covers : Covers (take l.i l.rows) (columns_of l.lists.items); whole : length l.lists.items ≡ l.base }
