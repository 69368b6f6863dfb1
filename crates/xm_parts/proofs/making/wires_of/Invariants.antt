use Rattle.std.proofs.Common.{◌≡◌, map, take}
use Rattle.xm_model.specs.Views.{signals_of}
use Rattle.xm_parts.specs.Projection.{wire_of}
use Rattle.xm_parts.proofs.making.wires_of.Given as goal

abbrev pub invariant-loop-k : goal.invariant-loop-k
invariant-loop-k l = l.made.items ≡ map (wire_of (signals_of l.wires)) (take l.k l.channels)
