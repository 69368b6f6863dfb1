use Rattle.std.proofs.Common.{◌≡◌, ◌++◌, drop, map}
use Rattle.xm_model.specs.Component.{component_of}
use Rattle.xm_parts.specs.Choosing.{own_oracles}
use Rattle.xm_parts.specs.Kept.{label_at}
use Rattle.xm_parts.proofs.own.own_among.Given as goal

abbrev pub invariant-loop-prim : goal.invariant-loop-prim
invariant-loop-prim l = l.own.items ++ own_oracles (label_at l.labels) l.p (map component_of (drop l.prim-index l.prims)) ≡ own_oracles (label_at l.labels) l.p (map component_of l.prims)
