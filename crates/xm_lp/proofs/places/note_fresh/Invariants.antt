use Rattle.std.proofs.Common.{take}
use Rattle.xm_lp.specs.Inner.Listing.{IsNoted}
use Rattle.xm_rows.specs.Columns.{columns_of}
use Rattle.xm_lp.proofs.places.note_fresh.Given as goal

abbrev pub invariant-loop-entry : goal.invariant-loop-entry
invariant-loop-entry l = IsNoted l.h l.row (take l.entry-index l.entry-items) (columns_of l.fn.places) (columns_of l.places)
