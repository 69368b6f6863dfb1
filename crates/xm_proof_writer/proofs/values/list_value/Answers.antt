use Rattle.serde_json.proofs.Views.{view-Array}
use Rattle.xm_proof_writer.proofs.values.list_value.Goals as goal

pub returns : goal.returns
returns c = view-Array c.args.values
