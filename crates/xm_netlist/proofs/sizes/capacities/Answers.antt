use Rattle.std.proofs.Common.{◌≤◌, ℕ, arith, subst, sym}
use Rattle.std.proofs.lemmas.Grind.{common_steps}
use Rattle.xm_model.specs.Limits.{most_capacity}
use Rattle.xm_shape.specs.NamedNet.{NamedPrimitive}
use Rattle.xm_shape.specs.Views.{named_primitive_of}
use Rattle.xm_netlist.specs.Checks.{capacity_in}
use Rattle.xm_netlist.proofs.Places.{seen_at}
use Rattle.xm_netlist.proofs.sizes.capacities.Goals as goal

small_here : (c : goal.After-kind_capacity-total) → c.kind_capacity-total.result ≤ most_capacity
small_here c =
    let h = seen_at (λ (primitive : NamedPrimitive). capacity_in primitive ≤ most_capacity) named_primitive_of c.args.primitives.now c.loop-primitive.primitive-index c.primitive-item.result c.requires.small c.loop-primitive-test.true c.primitive-item.is in
    subst (λ (n : ℕ). n ≤ most_capacity) (sym c.kind_capacity-total.ensures) h

pub overflow_add-total : goal.overflow_add-total
overflow_add-total c = omega (arith, small_here c)

pub loop-primitive-preserved : goal.loop-primitive-preserved
loop-primitive-preserved c = record { so_far = grind (arith, common_steps); small = omega (arith, small_here c) }
