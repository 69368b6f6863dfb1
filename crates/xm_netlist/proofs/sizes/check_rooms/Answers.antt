use Rattle.std.proofs.Common.{map}
use Rattle.xm_shape.specs.Views.{named_primitive_of}
use Rattle.xm_netlist.proofs.Limited.{all_small}
use Rattle.xm_netlist.proofs.sizes.check_rooms.Goals as goal

pub capacities-requires-clause-small : goal.capacities-requires-clause-small
capacities-requires-clause-small c = all_small (map named_primitive_of c.args.primitives.now) c.in_ok-check_queue_sizes.ensures
