use Rattle.std.proofs.Common.{◌≡◌, drop}
use Rattle.xm_shape.specs.Views.{names_of, table_of}
use Rattle.xm_netlist.specs.Checks.{check_table}
use Rattle.xm_netlist.proofs.colouring.check_table.Given as goal

abbrev pub invariant-loop-image : goal.invariant-loop-image
invariant-loop-image l =
    check_table (names_of l.colours.keys) l.path (table_of (drop l.image-index l.table)) ≡ check_table (names_of l.colours.keys) l.path (table_of l.table)
