use Rattle.std.proofs.Common.{◌≡◌, length, take}
use Rattle.xm_lp.specs.Inner.Listing.{AreListed}
use Rattle.xm_rows.specs.Columns.{columns_of}
use Rattle.xm_lp.proofs.places.rows_by.Given as goal

abbrev pub invariant-loop-i : goal.invariant-loop-i
invariant-loop-i l = record { listed : AreListed (take l.i l.rows) (columns_of l.lists.items); whole : length l.lists.items ≡ l.columns }
