use Rattle.xm_elim.specs.Inner.Places.{AreReplacing}
use Rattle.xm_elim.proofs.replace.replace_all.Given as goal

abbrev pub invariant-loop-p : goal.invariant-loop-p
invariant-loop-p l = AreReplacing l.column l.pivot l.places l.p-index l.fn.rows l.rows
