use Rattle.std.proofs.Common.{◌≡◌, ◌≤◌, length}
use Rattle.xm_parts.specs.Changing.{AreCellChanges}
use Rattle.xm_parts.specs.Rows.{contents_in}
use Rattle.xm_parts.proofs.comparing.change_cells.Given as goal

abbrev pub invariant-loop-k : goal.invariant-loop-k
invariant-loop-k l = record {
  cells : AreCellChanges (contents_in l.old) (contents_in l.new) l.k l.out.items;
  few : length l.out.items ≤ l.k;
  room : l.out.room ≡ l.initial.out.room;
}
