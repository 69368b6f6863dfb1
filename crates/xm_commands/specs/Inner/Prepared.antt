-- Inner: what is prepared of the bytes of a document, and why it is not.
use Rattle.std.specs.Prelude.{◌≡◌, ℕ, Bool, true, false, List, Option, Some, None, Ok, option_map}
use Rattle.serde_json.specs.View.{view}
use Rattle.xm_design.specs.Designed.{IsColourRefused, IsLoopRefused}
use Rattle.xm_design.specs.declared.fault.NetFault.{NetFault}
use Rattle.xm_design.specs.declared.fault.NetFault.TheVariants as net_faults
use Rattle.xm_model.specs.Naming.{Allowed, IsNamed, Naming, naming_of}
use Rattle.xm_model.specs.Net.{Network}
use Rattle.xm_shape.specs.declared.fault.DocFault.{DocFault}
use Rattle.xm_shape.specs.declared.fault.DocFault.TheVariants as doc_faults
use Rattle.xm_netlist.specs.Doc.{Doc}
use Rattle.xm_netlist.specs.Documented.{doc_of}
use Rattle.xm_netlist.specs.Reading.{document_in}
use Rattle.xm_netlist.specs.Valid.{IsValid}
use Rattle.xm_netlist.specs.declared.document.Document.{Document}
use Rattle.xm_report.specs.Lines.{colour_line, loop_line}
use Rattle.xm_tape.specs.declared.fault.TapeFault.{TapeFault}
use Rattle.xm_tape.specs.declared.fault.TapeFault.TheVariants as tape_faults
use Rattle.xm_commands.specs.Output.{IsDesignOf}
use Rattle.xm_commands.specs.Refusal.{Refuses}
use Rattle.xm_commands.specs.declared.command.Command.{Command}
use Rattle.xm_commands.specs.declared.prepared.Prepared.{Prepared}
use Rattle.xm_commands.specs.declared.refusal.Refusal.{Refusal}
use Rattle.xm_commands.specs.declared.refusal.Refusal.TheVariants as refusal

-- the bytes are a document, this is its design, with its names, its tape and its proof
pub record IsPrepared (bytes : List ℕ) (it : Prepared) : Type 0 where
  pub doc : Doc
  pub read : document_in bytes ≡ Ok doc
  pub design : IsDesignOf doc it.design
  pub names : naming_of it.names ≡ doc.names
  pub tape : option_map view it.tape ≡ doc.tape
  pub proof : option_map view it.proof ≡ doc.proof
  pub named : IsNamed doc.net doc.names
  pub valid : IsValid doc

-- the bytes are this document, which can be written again
pub record IsReadAs (bytes : List ℕ) (it : Document) : Type 0 where
  pub read : document_in bytes ≡ Ok (doc_of it)
  pub valid : IsValid (doc_of it)

-- the refusal of the bytes is for this cause; want of memory is free
abbrev pub IsRefusedAs : List ℕ → Command → Refusal → Type 0
IsRefusedAs bytes it (refusal.Document line) = Refuses bytes it 3 line.items
IsRefusedAs bytes it (refusal.Net line) = Refuses bytes it 4 line.items
IsRefusedAs bytes it (refusal.Tape line) = Refuses bytes it 5 line.items
IsRefusedAs bytes it (refusal.Proof line) = Refuses bytes it 5 line.items
IsRefusedAs bytes it (refusal.Overflow line) = Refuses bytes it 8 line.items
IsRefusedAs bytes it refusal.Memory = Unit {0}
IsRefusedAs bytes it _ = ⊥

-- the fault is one of the net with its list of allowed colours
abbrev pub IsNetFault : Network → List Allowed → NetFault → Type 0
IsNetFault net allow (net_faults.Allow fault) = IsColourRefused net allow fault.channel fault.colour
IsNetFault net allow (net_faults.CombLoop found) = IsLoopRefused net allow found.items
IsNetFault net allow net_faults.OutOfMemory = Unit {0}

-- the line of such a fault, but of want of memory
abbrev pub net_fault_line : Naming → NetFault → Option (List ℕ)
net_fault_line names (net_faults.Allow fault) = Some (colour_line names fault.channel fault.colour)
net_fault_line names (net_faults.CombLoop found) = Some (loop_line names found.items)
net_fault_line names net_faults.OutOfMemory = None

-- the fault of the document is want of memory
abbrev pub is_want : DocFault → Bool
is_want doc_faults.OutOfMemory = true
is_want _ = false

-- the fault of the document is one of wiring
abbrev pub is_of_wiring : DocFault → Bool
is_of_wiring (doc_faults.Wiring fault names) = true
is_of_wiring _ = false

-- the fault of the tape is want of memory
abbrev pub is_want_of_tape : TapeFault → Bool
is_want_of_tape tape_faults.OutOfMemory = true
is_want_of_tape _ = false
