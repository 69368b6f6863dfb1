use Rattle.std.proofs.Common.{◌≡◌, map, take}
use Rattle.xm_model.specs.Component.{component_of}
use Rattle.xm_shape.specs.Views.{named_primitive_of}
use Rattle.xm_netlist.specs.Inner.Placed.{numbered_primitive}
use Rattle.xm_netlist.proofs.numbering.components.Given as goal

abbrev pub invariant-loop-primitive : goal.invariant-loop-primitive
invariant-loop-primitive l = map component_of l.prims.items ≡ map (numbered_primitive l.numbers) (map named_primitive_of (take l.primitive-index l.primitives))
