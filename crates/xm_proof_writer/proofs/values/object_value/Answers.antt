use Rattle.serde_json.proofs.Views.{view-Object}
use Rattle.xm_proof_writer.proofs.values.object_value.Goals as goal

pub returns : goal.returns
returns c = view-Object c.args.members
