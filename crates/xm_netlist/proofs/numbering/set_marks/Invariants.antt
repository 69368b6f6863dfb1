use Rattle.std.proofs.Common.{◌≡◌, drop}
use Rattle.xm_shape.specs.Views.{names_of}
use Rattle.xm_netlist.specs.Inner.Placed.{with_marks}
use Rattle.xm_netlist.proofs.numbering.set_marks.Given as goal

abbrev pub invariant-loop-name : goal.invariant-loop-name
invariant-loop-name l =
    with_marks (names_of l.known.keys) (names_of (drop l.name-index l.names)) l.marks ≡ with_marks (names_of l.known.keys) (names_of l.names) l.initial.marks
