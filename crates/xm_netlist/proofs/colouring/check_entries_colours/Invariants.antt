use Rattle.std.proofs.Common.{◌≡◌, drop, map}
use Rattle.xm_shape.specs.Views.{allow_entry_of, names_of}
use Rattle.xm_json.specs.Holding.{each_holds, each_holds_from}
use Rattle.xm_netlist.specs.Checks.{check_entry_colours}
use Rattle.xm_netlist.proofs.colouring.check_entries_colours.Given as goal

abbrev pub invariant-loop-i : goal.invariant-loop-i
invariant-loop-i l =
    each_holds_from (check_entry_colours (names_of l.colours.keys)) l.i (map allow_entry_of (drop l.i l.entries)) ≡ each_holds (check_entry_colours (names_of l.colours.keys)) (map allow_entry_of l.entries)
