use Rattle.std.proofs.Common.{◌≡◌, drop, map}
use Rattle.serde_json.specs.Data.{no_members}
use Rattle.serde_json.specs.View.{members_view}
use Rattle.xm_model.specs.Naming.{allowed_of, naming_of}
use Rattle.xm_writer.specs.Writing.{entries_data}
use Rattle.xm_writer.proofs.writing.entries_value.Given as goal

abbrev pub invariant-loop-entry : goal.invariant-loop-entry
invariant-loop-entry l = entries_data (naming_of l.names) (map allowed_of (drop l.entry-index l.entries)) (members_view l.members.entries) ≡ entries_data (naming_of l.names) (map allowed_of l.entries) no_members
