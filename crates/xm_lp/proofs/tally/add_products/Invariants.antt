use Rattle.std.proofs.Common.{take}
use Rattle.xm_lp.specs.Lemmas.Tally.{AreAdded}
use Rattle.xm_lp.proofs.tally.add_products.Given as goal

abbrev pub invariant-loop-entry : goal.invariant-loop-entry
invariant-loop-entry l = AreAdded l.fn.sums l.multiplier (take l.entry-index l.entry-items) l.sums
