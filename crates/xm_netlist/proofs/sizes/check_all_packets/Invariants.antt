use Rattle.std.proofs.Common.{◌≡◌, drop, map}
use Rattle.xm_shape.specs.Views.{named_primitive_of}
use Rattle.xm_json.specs.Holding.{each_holds, each_holds_from}
use Rattle.xm_netlist.specs.Checks.{check_queue_packets}
use Rattle.xm_netlist.proofs.sizes.check_all_packets.Given as goal

abbrev pub invariant-loop-primitive : goal.invariant-loop-primitive
invariant-loop-primitive l = each_holds_from check_queue_packets l.primitive-index (map named_primitive_of (drop l.primitive-index l.primitives)) ≡ each_holds check_queue_packets (map named_primitive_of l.primitives)
