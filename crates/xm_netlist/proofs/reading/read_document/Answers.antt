use Rattle.serde_json.specs.View.{view}
use Rattle.xm_netlist.proofs.Validity.{valid_from_gives}
use Rattle.xm_netlist.proofs.reading.read_document.Goals as goal

pub returns-clause-valid : goal.returns-clause-valid
returns-clause-valid c = valid_from_gives c.document_of.result (view c.in_ok-root.root) c.document_of.ensures c.in_ok-root.ensures.shallow
