use Rattle.std.proofs.Common.{◌∙◌, ap, Some, sym}
use Rattle.std.proofs.lemmas.Bool.{false≢true}
use Rattle.serde_json.specs.Data.{Data}
use Rattle.serde_json.proofs.Views.{view-Object}
use Rattle.xm_writer.proofs.Spelled.{object_if_members}
use Rattle.xm_writer.proofs.members.object_if.Goals as goal

pub returns-else-is_empty : goal.returns-else-is_empty
returns-else-is_empty c = ap (λ (d : Data). Some d) (view-Object c.args.members) ∙ sym (object_if_members c.args.members.entries (λ e. let empty = c.if-is_empty.ensures.1 e in false≢true empty))
