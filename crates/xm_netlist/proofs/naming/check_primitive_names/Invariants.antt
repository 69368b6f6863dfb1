use Rattle.std.proofs.Common.{◌≡◌, drop, map, take}
use Rattle.xm_shape.specs.Views.{names_of, named_primitive_of}
use Rattle.xm_json.specs.Holding.{each_holds, each_holds_from}
use Rattle.xm_netlist.specs.Checks.{name_of, check_primitive_name}
use Rattle.xm_netlist.proofs.naming.check_primitive_names.Given as goal

abbrev pub invariant-loop-i : goal.invariant-loop-i
invariant-loop-i l = record {
  before : names_of l.before.keys ≡ map name_of (take l.i (map named_primitive_of l.primitives));
  named : each_holds_from (check_primitive_name (map named_primitive_of l.primitives)) l.i (map named_primitive_of (drop l.i l.primitives)) ≡ each_holds (check_primitive_name (map named_primitive_of l.primitives)) (map named_primitive_of l.primitives);
}
