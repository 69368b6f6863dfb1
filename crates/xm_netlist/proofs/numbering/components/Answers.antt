use Rattle.std.proofs.Common.{◌≤◌}
use Rattle.xm_model.specs.Limits.{most_capacity}
use Rattle.xm_shape.specs.NamedNet.{NamedPrimitive}
use Rattle.xm_shape.specs.Views.{named_primitive_of}
use Rattle.xm_netlist.specs.Checks.{capacity_in}
use Rattle.xm_netlist.proofs.Places.{seen_at}
use Rattle.xm_netlist.proofs.numbering.components.Goals as goal

pub component-requires-clause-small : goal.component-requires-clause-small
component-requires-clause-small c =
    seen_at (λ (primitive : NamedPrimitive). capacity_in primitive ≤ most_capacity) named_primitive_of c.args.primitives.now c.loop-primitive.primitive-index c.primitive-item.result c.requires.small c.loop-primitive-test.true c.primitive-item.is
