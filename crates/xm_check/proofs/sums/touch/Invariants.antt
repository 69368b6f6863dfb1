use Rattle.std.proofs.Common.{◌≡◌, ◌++◌, map, take}
use Rattle.xm_rows.specs.declared.row.Entry.{Entry}
use Rattle.xm_check.proofs.sums.touch.Given as goal

abbrev pub invariant-loop-entry : goal.invariant-loop-entry
invariant-loop-entry l = l.touched.items ≡ l.fn.touched.items ++ map (λ (e : Entry). e.column) (take l.entry-index l.entries)
