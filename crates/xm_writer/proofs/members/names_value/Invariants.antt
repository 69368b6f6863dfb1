use Rattle.std.proofs.Common.{◌≡◌, map, take}
use Rattle.serde_json.specs.View.{view}
use Rattle.xm_model.specs.Naming.{texts_of}
use Rattle.xm_writer.specs.Writing.{name_data}
use Rattle.xm_writer.proofs.members.names_value.Given as goal

abbrev pub invariant-loop-number : goal.invariant-loop-number
invariant-loop-number l = map view l.values.items ≡ map (name_data (texts_of l.names)) (take l.number-index l.numbers)
