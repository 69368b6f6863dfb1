-- The code's document, in plain lists.
use Rattle.std.specs.Prelude.{map, option_map}
use Rattle.serde_json.specs.View.{view}
use Rattle.xm_model.specs.Naming.{allowed_of, naming_of}
use Rattle.xm_netlist.specs.Doc.{Doc}
use Rattle.xm_netlist.specs.declared.document.Document.{Document}

abbrev pub doc_of : Document → Doc
doc_of d = record {
  net = d.net;
  names = naming_of d.names;
  allow = map allowed_of d.allow.items;
  tape = option_map view d.tape;
  proof = option_map view d.proof;
}
