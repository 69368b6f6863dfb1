use Rattle.std.proofs.Common.{◌≡◌, drop, map}
use Rattle.xm_shape.specs.Views.{names_of, named_primitive_of}
use Rattle.xm_json.specs.Holding.{each_holds, each_holds_from}
use Rattle.xm_netlist.specs.Checks.{check_primitive_colours}
use Rattle.xm_netlist.proofs.colouring.check_primitives_colours.Given as goal

abbrev pub invariant-loop-i : goal.invariant-loop-i
invariant-loop-i l =
    each_holds_from (check_primitive_colours (names_of l.colours.keys)) l.i (map named_primitive_of (drop l.i l.primitives)) ≡ each_holds (check_primitive_colours (names_of l.colours.keys)) (map named_primitive_of l.primitives)
