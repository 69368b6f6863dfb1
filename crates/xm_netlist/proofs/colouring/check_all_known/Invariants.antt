use Rattle.std.proofs.Common.{◌≡◌, drop}
use Rattle.xm_shape.specs.Views.{names_of}
use Rattle.xm_json.specs.Path.{place_of}
use Rattle.xm_json.specs.Holding.{each_holds_from}
use Rattle.xm_netlist.specs.Checks.{check_all_known, check_known}
use Rattle.xm_netlist.proofs.colouring.check_all_known.Given as goal

abbrev pub invariant-loop-i : goal.invariant-loop-i
invariant-loop-i l =
    each_holds_from (λ i name. check_known (names_of l.colours.keys) (place_of l.path i) name) l.i (names_of (drop l.i l.names)) ≡ check_all_known (names_of l.colours.keys) l.path (names_of l.names)
