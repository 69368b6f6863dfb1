use Rattle.std.proofs.Common.{◌≡◌, ◌++◌, drop}
use Rattle.xm_netlist.specs.Numbered.{marked_from}
use Rattle.xm_netlist.proofs.allowing.marked_places.Given as goal

abbrev pub invariant-loop-i : goal.invariant-loop-i
invariant-loop-i l = l.places.items ++ marked_from l.i (drop l.i l.marks) ≡ marked_from 0 l.marks
