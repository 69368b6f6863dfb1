-- Which document the bytes are, or which fault comes first.
use Rattle.std.specs.Prelude.{ℕ, List, if◌then◌else◌, Option, None, Result, Ok, codes}
use Rattle.std.specs.Str.{is_utf8}
use Rattle.serde_json.specs.Data.{Data}
use Rattle.serde_json.specs.Find.{get}
use Rattle.serde_json.specs.Read.{read}
use Rattle.xm_model.specs.Steps.{◌>>=◌, demand}
use Rattle.xm_shape.specs.NamedNet.{NamedNet}
use Rattle.xm_shape.specs.Fault.{Fault, not_json}
use Rattle.xm_shape.specs.Shape.{named_net_in}
use Rattle.xm_netlist.specs.Doc.{Doc}
use Rattle.xm_netlist.specs.Numbered.{allow_of, naming_in, net_of, check_wiring}
use Rattle.xm_netlist.specs.Checks.{check_colours, check_sizes, check_names}

-- the document that a draft makes
abbrev pub doc_from : NamedNet → Option Data → Option Data → Doc
doc_from draft tape proof =
    record { net = net_of draft; names = naming_in draft; allow = allow_of draft; tape = tape; proof = proof }

-- names, colours, sizes and wiring have no fault, in this order
unfoldable pub number_net : NamedNet → Option Data → Option Data → Result Doc Fault
number_net draft tape proof = do
  _ ← check_names draft
  _ ← check_colours draft
  _ ← check_sizes draft
  _ ← check_wiring (net_of draft) (naming_in draft)
  Ok (doc_from draft tape proof)

-- first the shape
unfoldable pub document_of : Data → Result Doc Fault
document_of d = do
  draft ← named_net_in d
  number_net draft (get (codes "tape") d) (get (codes "proof") d)

-- the value that the bytes are, as JSON
unfoldable pub json_of : List ℕ → Option Data
json_of bytes = if is_utf8 bytes then read bytes else None

-- first of all JSON
unfoldable pub document_in : List ℕ → Result Doc Fault
document_in bytes = demand (json_of bytes) not_json >>= document_of
