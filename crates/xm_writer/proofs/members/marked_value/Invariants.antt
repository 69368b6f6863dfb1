use Rattle.std.proofs.Common.{◌≡◌, ◌++◌, drop, map}
use Rattle.serde_json.specs.View.{view}
use Rattle.xm_model.specs.Naming.{texts_of}
use Rattle.xm_netlist.specs.Numbered.{marked_from}
use Rattle.xm_writer.specs.Writing.{name_data}
use Rattle.xm_writer.proofs.members.marked_value.Given as goal

abbrev pub invariant-loop-i : goal.invariant-loop-i
invariant-loop-i l = map view l.values.items ++ map (name_data (texts_of l.names)) (marked_from l.i (drop l.i l.marks)) ≡ map (name_data (texts_of l.names)) (marked_from 0 l.marks)
