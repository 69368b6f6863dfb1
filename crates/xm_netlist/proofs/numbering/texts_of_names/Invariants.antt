use Rattle.std.proofs.Common.{◌≡◌, take}
use Rattle.xm_model.specs.Naming.{texts_of}
use Rattle.xm_shape.specs.Views.{names_of}
use Rattle.xm_netlist.proofs.numbering.texts_of_names.Given as goal

abbrev pub invariant-loop-name : goal.invariant-loop-name
invariant-loop-name l = texts_of l.texts.items ≡ names_of (take l.name-index l.names.keys)
