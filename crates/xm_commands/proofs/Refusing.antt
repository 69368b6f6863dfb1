-- Why bytes are refused, from the faults that were found.
use Rattle.std.proofs.Common.{◌≡◌, ◌<◌, ℕ, true, false, List, Some, Result, Ok, Err, refl, sym, ap, subst, inl}
use Rattle.xm_design.specs.Designed.{Designed, IsColourRefused, IsLoopRefused}
use Rattle.xm_design.specs.declared.fault.NetFault.{NetFault}
use Rattle.xm_design.specs.declared.fault.NetFault.TheVariants as net_faults
use Rattle.xm_flow.specs.Holding.{most_pairs, pair_count}
use Rattle.xm_flow.specs.declared.build.FlowFault.{FlowFault}
use Rattle.xm_flow.specs.declared.build.FlowFault.TheVariants as flow_faults
use Rattle.xm_model.specs.Naming.{Allowed, Naming}
use Rattle.xm_model.specs.Net.{Network}
use Rattle.xm_shape.specs.Fault.{Fault}
use Rattle.xm_shape.specs.Gives.{Fails, fault_of}
use Rattle.xm_shape.specs.declared.fault.DocFault.{DocFault}
use Rattle.xm_shape.specs.declared.fault.DocFault.TheVariants as doc_faults
use Rattle.xm_netlist.specs.Doc.{Doc}
use Rattle.xm_netlist.specs.Reading.{document_in}
use Rattle.xm_report.specs.Lines.{colour_line, document_line, loop_line, tape_line}
use Rattle.xm_tape.specs.Fault as tape
use Rattle.xm_tape.specs.Gives as reading
use Rattle.xm_tape.specs.Reading.{tape_in}
use Rattle.xm_tape.specs.declared.fault.TapeFault.{TapeFault}
use Rattle.xm_tape.specs.declared.fault.TapeFault.TheVariants as tape_faults
use Rattle.xm_commands.specs.Output.{IsDesignOf}
use Rattle.xm_commands.specs.Refusal.{AsksForTape, Refuses, of_colour, of_document, of_loop, of_tape}
use Rattle.xm_commands.specs.Inner.Invariants.{IsFlowFault}
use Rattle.xm_commands.specs.Change.{Change}
use Rattle.xm_commands.specs.Inner.WhyEnded.{IsCause, IsUnharmed, IsUntouched}
use Rattle.xm_commands.specs.Inner.Prepared.{IsNetFault, IsRefusedAs, is_of_wiring, is_want, is_want_of_tape, net_fault_line}
use Rattle.xm_commands.specs.declared.command.Command.{Command}
use Rattle.xm_commands.specs.declared.refusal.Refusal.{Refusal}
use Rattle.xm_commands.specs.declared.refusal.Refusal.TheVariants as refusal

-- the line is that of the fault
abbrev pub Lines : DocFault → List ℕ → Type 0
Lines fault line = (it : Fault) → fault_of fault ≡ Some it → line ≡ document_line it

module _ (bytes : List ℕ) (command : Command) (line : List ℕ) where
  pub document_refused : (fault : DocFault) → Fails fault (document_in bytes) → Lines fault line → is_want fault ≡ false → is_of_wiring fault ≡ false → Refuses bytes command 3 line
  document_refused doc_faults.NotJson fails lines some other = subst (Refuses bytes command 3) (sym (lines _ refl)) (of_document _ fails)
  document_refused (doc_faults.Shape path) fails lines some other = subst (Refuses bytes command 3) (sym (lines _ refl)) (of_document _ fails)
  document_refused (doc_faults.UnknownKind path) fails lines some other = subst (Refuses bytes command 3) (sym (lines _ refl)) (of_document _ fails)
  document_refused (doc_faults.UnknownColour path) fails lines some other = subst (Refuses bytes command 3) (sym (lines _ refl)) (of_document _ fails)
  document_refused (doc_faults.BadName path) fails lines some other = subst (Refuses bytes command 3) (sym (lines _ refl)) (of_document _ fails)
  document_refused (doc_faults.SameName path) fails lines some other = subst (Refuses bytes command 3) (sym (lines _ refl)) (of_document _ fails)
  document_refused (doc_faults.Limit which count) fails lines some other = subst (Refuses bytes command 3) (sym (lines _ refl)) (of_document _ fails)
  document_refused (doc_faults.Wiring fault names) fails lines some other = absurd cc
  document_refused doc_faults.OutOfMemory fails lines some other = absurd cc

  pub wiring_refused : (fault : DocFault) → Fails fault (document_in bytes) → Lines fault line → is_of_wiring fault ≡ true → Refuses bytes command 4 line
  wiring_refused doc_faults.NotJson fails lines is = absurd cc
  wiring_refused (doc_faults.Shape path) fails lines is = absurd cc
  wiring_refused (doc_faults.UnknownKind path) fails lines is = absurd cc
  wiring_refused (doc_faults.UnknownColour path) fails lines is = absurd cc
  wiring_refused (doc_faults.BadName path) fails lines is = absurd cc
  wiring_refused (doc_faults.SameName path) fails lines is = absurd cc
  wiring_refused (doc_faults.Limit which count) fails lines is = absurd cc
  wiring_refused (doc_faults.Wiring fault names) fails lines is = subst (Refuses bytes command 4) (sym (lines _ refl)) (of_document _ fails)
  wiring_refused doc_faults.OutOfMemory fails lines is = absurd cc

  pub net_refused : (names : Naming) (doc : Doc) (fault : NetFault) → document_in bytes ≡ Ok doc → names ≡ doc.names → IsNetFault doc.net doc.allow fault → net_fault_line names fault ≡ Some line → Refuses bytes command 4 line
  net_refused names doc (net_faults.Allow fault) read named is said =
      let same : line ≡ colour_line doc.names fault.channel fault.colour = (let e = ap (λ n. colour_line n fault.channel fault.colour) named in cc) in
      subst (Refuses bytes command 4) (sym same) (of_colour doc fault.channel fault.colour read is)
  net_refused names doc (net_faults.CombLoop found) read named is said =
      let same : line ≡ loop_line doc.names found.items = (let e = ap (λ n. loop_line n found.items) named in cc) in
      subst (Refuses bytes command 4) (sym same) (of_loop doc found.items read is)
  net_refused names doc net_faults.OutOfMemory read named is said = absurd cc

-- the fault of a net that makes no design, from the two clauses of the call that makes it
pub net_fault : {T : Type 0} (r : Result T NetFault) (net : Network) (allow : List Allowed) (fault : NetFault) → r ≡ Err fault → ((f : _) → r ≡ Err (net_faults.Allow f) → IsColourRefused net allow f.channel f.colour)
    → ((f : _) → r ≡ Err (net_faults.CombLoop f) → IsLoopRefused net allow f.items) → IsNetFault net allow fault
net_fault r net allow (net_faults.Allow f) is refused looped = refused f is
net_fault r net allow (net_faults.CombLoop f) is refused looped = looped f is
net_fault r net allow net_faults.OutOfMemory is refused looped = tt

-- the fault of a net that has no flow rows, from the clause of the call that makes them
pub flow_fault : {T : Type 0} (r : Result T FlowFault) (design : Designed) (fault : FlowFault) → r ≡ Err fault → ((n : ℕ) → r ≡ Err (flow_faults.TooWide n) → (n ≡ pair_count design) × (most_pairs < n)) → IsFlowFault design fault
flow_fault r design (flow_faults.TooWide n) is wide = wide n is
flow_fault r design flow_faults.OutOfMemory is wide = tt

-- the line is that of the tape's fault
abbrev pub TapeLines : TapeFault → List ℕ → Type 0
TapeLines fault line = (it : tape.Fault) → reading.fault_of fault ≡ Some it → line ≡ tape_line it

module _ (bytes line : List ℕ) (command : Command) (doc : Doc) (it : Designed) where
  pub tape_refused : (fault : TapeFault) → document_in bytes ≡ Ok doc → IsDesignOf doc it → AsksForTape command → reading.Fails fault (tape_in doc.net doc.tape) → TapeLines fault line → is_want_of_tape fault ≡ false
      → Refuses bytes command 5 line
  tape_refused (tape_faults.TapeShape path) read design asks fails lines some = subst (Refuses bytes command 5) (sym (lines _ refl)) (of_tape doc it _ read design asks fails)
  tape_refused (tape_faults.TapeLimit count) read design asks fails lines some = subst (Refuses bytes command 5) (sym (lines _ refl)) (of_tape doc it _ read design asks fails)
  tape_refused (tape_faults.RowLength row count) read design asks fails lines some = subst (Refuses bytes command 5) (sym (lines _ refl)) (of_tape doc it _ read design asks fails)
  tape_refused (tape_faults.BadMark row oracle) read design asks fails lines some = subst (Refuses bytes command 5) (sym (lines _ refl)) (of_tape doc it _ read design asks fails)
  tape_refused tape_faults.OutOfMemory read design asks fails lines some = absurd cc

-- what the refusal of a document says of the sink, which it leaves
pub refused_cause : {K : Type 0} (bytes : List ℕ) (it : Command) (sink : Change K) (r : Refusal) → IsRefusedAs bytes it r → IsUntouched sink → IsUnharmed sink → IsCause bytes it sink r
refused_cause bytes it sink refusal.Words is same unharmed = is
refused_cause bytes it sink (refusal.Document line) is same unharmed = (is, same)
refused_cause bytes it sink (refusal.Net line) is same unharmed = (is, same)
refused_cause bytes it sink (refusal.Tape line) is same unharmed = (is, same)
refused_cause bytes it sink (refusal.Proof line) is same unharmed = (is, same)
refused_cause bytes it sink (refusal.Overflow line) is same unharmed = (is, same)
refused_cause bytes it sink refusal.Read is same unharmed = is
refused_cause bytes it sink refusal.Write is same unharmed = absurd is
refused_cause bytes it sink refusal.Memory is same unharmed = (unharmed, inl same)
refused_cause bytes it sink refusal.TooLong is same unharmed = is
