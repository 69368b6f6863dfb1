use Rattle.std.proofs.Common.{◌≡◌, map, take}
use Rattle.xm_shape.specs.Views.{names_of}
use Rattle.xm_shape.specs.Names.{number_in}
use Rattle.xm_netlist.proofs.numbering.colour_numbers.Given as goal

abbrev pub invariant-loop-name : goal.invariant-loop-name
invariant-loop-name l = l.numbers.items ≡ map (number_in (names_of l.known.keys)) (names_of (take l.name-index l.names))
