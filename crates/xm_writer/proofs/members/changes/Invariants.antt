use Rattle.std.proofs.Common.{◌≡◌, drop}
use Rattle.serde_json.specs.Data.{no_members}
use Rattle.serde_json.specs.View.{members_view}
use Rattle.xm_model.specs.Naming.{texts_of}
use Rattle.xm_writer.specs.Writing as spec
use Rattle.xm_writer.proofs.members.changes.Given as goal

abbrev pub invariant-loop-d : goal.invariant-loop-d
invariant-loop-d l = spec.changes (texts_of l.colours) l.d (drop l.d l.images) (members_view l.members.entries) ≡ spec.changes (texts_of l.colours) 0 l.images no_members
