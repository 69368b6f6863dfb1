use Rattle.std.proofs.Common.{◌≡◌, map, take}
use Rattle.xm_model.specs.Views.{oracles_below}
use Rattle.xm_parts.proofs.build.choices_of.Given as goal

abbrev pub invariant-loop-prim : goal.invariant-loop-prim
invariant-loop-prim l = l.made.items ≡ map (oracles_below l.design.net.prims) (take l.prim-index l.prims)
