use Rattle.std.proofs.Common.{◌-◌, ◌<◌, ◌≤◌, length}
use Rattle.std.specs.List.{AllWithin}
use Rattle.xm_rows.specs.declared.row.Entry.{Entry}
use Rattle.xm_rows.proofs.row.place_of.Given as goal

abbrev pub invariant-loop-low : goal.invariant-loop-low
invariant-loop-low l = record {
  order : l.low ≤ l.high;
  within : l.high ≤ length l.entries;
  below : AllWithin (λ (e : Entry). e.column < l.column) l.entries 0 l.low;
  above : AllWithin (λ (e : Entry). l.column ≤ e.column) l.entries l.high (length l.entries);
}

abbrev pub decreases-loop-low : goal.decreases-loop-low
decreases-loop-low l = l.high - l.low
