use Rattle.std.proofs.Common.{◌≡◌, drop, take}
use Rattle.xm_shape.specs.Views.{names_of}
use Rattle.xm_json.specs.Holding.{each_holds_from}
use Rattle.xm_netlist.specs.Inner.CheckSteps.{check_all_offered}
use Rattle.xm_netlist.specs.Checks.{check_offered}
use Rattle.xm_netlist.proofs.colouring.check_all_offered.Given as goal

abbrev pub invariant-loop-i : goal.invariant-loop-i
invariant-loop-i l = record {
  before : names_of l.before.keys ≡ take l.i (names_of l.names);
  offered : each_holds_from (check_offered (names_of l.colours.keys) l.path (names_of l.names)) l.i (names_of (drop l.i l.names)) ≡ check_all_offered (names_of l.colours.keys) l.path (names_of l.names);
}
