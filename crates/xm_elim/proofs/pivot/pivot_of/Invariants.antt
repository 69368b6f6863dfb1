use Rattle.std.proofs.Common.{take, length}
use Rattle.xm_elim.specs.Inner.Places.{IsBest, IsPlace}
use Rattle.xm_elim.proofs.pivot.pivot_of.Given as goal

abbrev pub invariant-loop-p : goal.invariant-loop-p
invariant-loop-p l = record { best : IsBest l.rows l.column (take l.p-index l.places) l.best; place : IsPlace (length l.rows) l.best }
