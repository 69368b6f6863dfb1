use Rattle.std.proofs.Common.{map}
use Rattle.xm_model.specs.Component.{component_of}
use Rattle.xm_parts.specs.Inner.Built.{AreRenamedTo}
use Rattle.xm_parts.specs.Kept.{label_at, near_place}
use Rattle.xm_parts.proofs.build.planned_of.Given as goal

abbrev pub invariant-loop-i : goal.invariant-loop-i
invariant-loop-i l = AreRenamedTo l.net (label_at l.labels) l.p (λ i. near_place (label_at l.labels) l.p) l.i (map component_of l.made.items)
