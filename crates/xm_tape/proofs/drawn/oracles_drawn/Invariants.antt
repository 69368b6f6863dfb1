use Rattle.std.proofs.Common.{◌≡◌, ◌++◌, drop, map}
use Rattle.xm_model.specs.Component.{component_of}
use Rattle.xm_tape.specs.Inner.Forms.{component_drawn, drawn_form}
use Rattle.xm_tape.specs.Marks.{oracles_of}
use Rattle.xm_tape.proofs.drawn.oracles_drawn.Given as goal

abbrev pub invariant-loop-prim : goal.invariant-loop-prim
invariant-loop-prim l = map component_drawn l.oracles.items ++ map drawn_form (oracles_of (map component_of (drop l.prim-index l.prims))) ≡ map drawn_form (oracles_of (map component_of l.prims))
