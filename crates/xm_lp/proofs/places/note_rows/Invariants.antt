use Rattle.std.proofs.Common.{take}
use Rattle.xm_lp.specs.Inner.Listing.{AreNoted}
use Rattle.xm_rows.specs.Columns.{columns_of}
use Rattle.xm_lp.proofs.places.note_rows.Given as goal

abbrev pub invariant-loop-h : goal.invariant-loop-h
invariant-loop-h l = AreNoted l.rows l.column l.i (take l.h-index l.list) (columns_of l.fn.places) (columns_of l.places)
