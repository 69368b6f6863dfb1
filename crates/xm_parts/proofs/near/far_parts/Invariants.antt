use Rattle.xm_parts.specs.Near.{ArePartsOf}
use Rattle.xm_parts.proofs.near.far_parts.Given as goal

abbrev pub invariant-loop-q : goal.invariant-loop-q
invariant-loop-q l = ArePartsOf l.cuts l.q l.made.items
