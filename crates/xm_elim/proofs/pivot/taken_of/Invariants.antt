use Rattle.std.proofs.Common.{take}
use Rattle.xm_elim.specs.Inner.Columns.{AreTakenOf}
use Rattle.xm_elim.proofs.pivot.taken_of.Given as goal

abbrev pub invariant-loop-p : goal.invariant-loop-p
invariant-loop-p l = AreTakenOf l.rows l.column (take l.p-index l.given) l.places.items
