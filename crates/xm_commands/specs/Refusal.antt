-- Why a command refuses the bytes of a document.
use Rattle.std.specs.Prelude.{◌≡◌, ◌<◌, ℕ, List, Ok, Err}
use Rattle.xm_commands.specs.Output.{HasFlow, IsDesignOf, IsSearched, proof_of}
use Rattle.xm_commands.specs.declared.command.Command.{Command}
use Rattle.xm_commands.specs.declared.command.Command.TheVariants as command
use Rattle.xm_design.specs.Designed.{Designed, IsColourRefused, IsLoopRefused}
use Rattle.xm_elim.specs.Elimination.{ElimOverflows}
use Rattle.xm_flow.specs.FlowRows.{Flow}
use Rattle.xm_flow.specs.Holding.{most_pairs, pair_count, queue_pair_count}
use Rattle.xm_flow.specs.ValidLemma.{Lemma}
use Rattle.xm_json.specs.Path.{Path}
use Rattle.xm_netlist.specs.Doc.{Doc}
use Rattle.xm_netlist.specs.Reading.{document_in}
use Rattle.xm_lits.specs.declared.literal.Lit.{Lit}
use Rattle.xm_order.specs.declared.signal.Signal.{Signal}
use Rattle.xm_persist.specs.Rights.{AllGranted, IsFirstUngranted}
use Rattle.xm_proof.specs.Argument.{Argument}
use Rattle.xm_report.specs.Lines.{colour_line, document_line, form_line, loop_line, overflow_line, persistency_line, pivots_line}
use Rattle.xm_report.specs.Lines.{tape_line, width_line}
use Rattle.xm_rows.specs.Row.{SparseRow}
use Rattle.xm_search.specs.Searched.{IsOverflow}
use Rattle.xm_shape.specs.Fault.{Fault, wiring}
use Rattle.xm_tape.specs.Fault as tape
use Rattle.xm_tape.specs.Reading.{tape_in}
use Rattle.xm_tape.specs.Taped.{Taped}

-- a fault of wiring is one of the net (4), and any other one of the document (3)
abbrev pub document_status : Fault → ℕ
document_status (wiring fault names) = 4
document_status _ = 3

-- the document has a proof, with the names of its design
pub record HasProof (doc : Doc) (design : Designed) : Type 0 where
  pub argument : Argument
  pub proof : proof_of doc design ≡ Ok argument

-- the command asks that each channel is granted a persistent initiator: `verify` where the document has a proof, and
-- `prove` of each
abbrev pub AsksForRights : Command → Doc → Designed → Type 0
AsksForRights command.Verify doc design = HasProof doc design
AsksForRights (command.Prove budget) doc design = Unit {0}
AsksForRights _ doc design = ⊥

-- the command runs the tape of the document
abbrev pub AsksForTape : Command → Type 0
AsksForTape command.Run = Unit {0}
AsksForTape (command.Simulate it) = Unit {0}
AsksForTape _ = ⊥

-- the document has a tape
pub record HasTape (doc : Doc) : Type 0 where
  pub taped : Taped
  pub tape : tape_in doc.net doc.tape ≡ Ok taped

-- the command asks for the flow rows of the design: `inv` of each, `verify` and `prove` where each channel is granted a
-- persistent initiator, and `sim` with snapshots where the document has a tape
abbrev pub AsksForFlow : Command → Doc → Designed → Type 0
AsksForFlow command.Inv doc design = Unit {0}
AsksForFlow command.Verify doc design = HasProof doc design × AllGranted design.net
AsksForFlow (command.Prove budget) doc design = AllGranted design.net
AsksForFlow (command.Simulate it) doc design = (0 < it.watch) × HasTape doc
AsksForFlow _ doc design = ⊥

-- and for what these rows say of packets alone
abbrev pub AsksForInvariants : Command → Doc → Designed → Type 0
AsksForInvariants command.Inv doc design = Unit {0}
AsksForInvariants (command.Prove budget) doc design = AllGranted design.net
AsksForInvariants (command.Simulate it) doc design = (0 < it.watch) × HasTape doc
AsksForInvariants _ doc design = ⊥

-- Why a command refuses the bytes, with the status and the line of error: the first fault of the document, the first
-- colour that is not allowed, a loop of the dependence, for `run` and `sim` the first fault of the tape, for `verify` the
-- first break of the proof's form, for `verify` and `prove` the first channel that is granted no persistent initiator,
-- for these, `inv`, and `sim` with snapshots too many pairs, for all of them but `verify` an elimination that leaves 128
-- bits, and for `prove` a path on which the search's tableau leaves them, in this order.
pub data Refuses (bytes : List ℕ) : Command → ℕ → List ℕ → Type 0 where
  of_document : {it : Command} (fault : Fault) → document_in bytes ≡ Err fault
      → Refuses bytes it (document_status fault) (document_line fault)
  of_colour : {it : Command} (doc : Doc) (c d : ℕ) → document_in bytes ≡ Ok doc
      → IsColourRefused doc.net doc.allow c d → Refuses bytes it 4 (colour_line doc.names c d)
  of_loop : {it : Command} (doc : Doc) (loop : List Signal) → document_in bytes ≡ Ok doc
      → IsLoopRefused doc.net doc.allow loop → Refuses bytes it 4 (loop_line doc.names loop)
  of_tape : {it : Command} (doc : Doc) (design : Designed) (fault : tape.Fault) → document_in bytes ≡ Ok doc
      → IsDesignOf doc design → AsksForTape it → tape_in doc.net doc.tape ≡ Err fault
      → Refuses bytes it 5 (tape_line fault)
  of_form : (doc : Doc) (design : Designed) (path : Path) → document_in bytes ≡ Ok doc → IsDesignOf doc design
      → proof_of doc design ≡ Err path → Refuses bytes command.Verify 5 (form_line path)
  of_persistency : {it : Command} (doc : Doc) (design : Designed) (c : ℕ) → document_in bytes ≡ Ok doc
      → IsDesignOf doc design → AsksForRights it doc design → IsFirstUngranted design.net c
      → Refuses bytes it 4 (persistency_line doc.names c)
  of_width : {it : Command} (doc : Doc) (design : Designed) → document_in bytes ≡ Ok doc → IsDesignOf doc design
      → AsksForFlow it doc design → most_pairs < pair_count design
      → Refuses bytes it 4 (width_line (pair_count design))
  of_overflow : {it : Command} (doc : Doc) (design : Designed) (flow : Flow) (r s : SparseRow) (column : ℕ)
      → document_in bytes ≡ Ok doc → IsDesignOf doc design → AsksForInvariants it doc design → HasFlow design flow
      → ElimOverflows (pair_count design) (queue_pair_count design) flow.rows r s column
      → Refuses bytes it 8 (overflow_line column)
  of_pivots : (doc : Doc) (design : Designed) (budget : ℕ) (lemmas : List Lemma) (path : List Lit) (pivots : ℕ)
      → document_in bytes ≡ Ok doc → IsDesignOf doc design → IsSearched design lemmas
      → IsOverflow design lemmas path pivots → Refuses bytes (command.Prove budget) 8 (pivots_line pivots)
