use Rattle.serde_json.specs.View.{view}
use Rattle.xm_netlist.proofs.Never.{never}
use Rattle.xm_netlist.proofs.Validity.{valid_from_gives}
use Rattle.xm_netlist.proofs.reading.read_value.Goals as goal

pub returns-clause-valid : goal.returns-clause-valid
returns-clause-valid c = valid_from_gives c.document_of_lent.result (view c.args.value.now) c.document_of_lent.ensures c.requires

pub returns-clause-json : goal.returns-clause-json
returns-clause-json c refused = never c.document_of_lent.result (view c.args.value.now) c.document_of_lent.ensures refused
