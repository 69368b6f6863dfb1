use Rattle.std.proofs.Common.{◌≡◌, drop, take}
use Rattle.xm_shape.specs.Views.{names_of}
use Rattle.xm_json.specs.Holding.{each_holds, each_holds_from}
use Rattle.xm_netlist.specs.Checks.{check_colour_name}
use Rattle.xm_netlist.proofs.naming.check_colour_names.Given as goal

abbrev pub invariant-loop-i : goal.invariant-loop-i
invariant-loop-i l = record {
  before : names_of l.before.keys ≡ take l.i (names_of l.colours);
  named : each_holds_from (check_colour_name (names_of l.colours)) l.i (names_of (drop l.i l.colours)) ≡ each_holds (check_colour_name (names_of l.colours)) (names_of l.colours);
}
