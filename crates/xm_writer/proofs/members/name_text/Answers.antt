use Rattle.xm_model.specs.Naming.{texts_of}
use Rattle.xm_writer.proofs.Spelled.{name_is_text}
use Rattle.xm_writer.proofs.members.name_text.Goals as goal

pub unreachable-requires : goal.unreachable-requires
unreachable-requires c = c.in-Err.ensures.cases.0 (rw c.name_of.ensures (name_is_text (texts_of c.args.names.now) c.requires c.args.i))
