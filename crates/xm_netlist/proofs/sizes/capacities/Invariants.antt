use Rattle.std.proofs.Common.{◌≡◌, ◌*◌, ◌≤◌, map, take}
use Rattle.std.specs.Prelude.{sum_by}
use Rattle.xm_model.specs.Limits.{most_capacity}
use Rattle.xm_shape.specs.Views.{named_primitive_of}
use Rattle.xm_netlist.specs.Checks.{capacity_in}
use Rattle.xm_netlist.proofs.sizes.capacities.Given as goal

abbrev pub invariant-loop-primitive : goal.invariant-loop-primitive
invariant-loop-primitive l = record {
  so_far : l.total ≡ sum_by capacity_in (map named_primitive_of (take l.primitive-index l.primitives));
  small : l.total ≤ most_capacity * l.primitive-index;
}
