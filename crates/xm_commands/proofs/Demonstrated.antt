-- A document that is drawn is refused for want of memory alone, and its tape has a cycle.
use Rattle.std.proofs.Common.{◌≡◌, ℕ, zero, suc, ◌-◌, ◌*◌, ◌^◌, ◌<◌, ◌≤◌, true, List, [], length, Option, Some, Result, Ok, Err, refl, sym, ap, ap₂, ◌∙◌, subst, codes, arith}
use Rattle.std.specs.Prelude.{IfOk, nat_le, option_map}
use Rattle.std.proofs.lemmas.Bool.{le-leb}
use Rattle.serde_json.specs.Data.{Data, member, no_members, number, object, unsigned}
use Rattle.serde_json.specs.View.{view}
use Rattle.xm_commands.specs.Demonstrating.{IsDemonstration, run_counts}
use Rattle.xm_commands.specs.Inner.Counting.{AreTotals, IsGenerated}
use Rattle.xm_commands.specs.Inner.Prepared.{IsPrepared, IsRefusedAs}
use Rattle.xm_commands.specs.Inner.WhyEnded.{IsWriteFault}
use Rattle.xm_commands.specs.Output.{IsDesignOf}
use Rattle.xm_commands.specs.Refusal.{Refuses, of_colour, of_document, of_loop, of_overflow, of_persistency, of_tape, of_width}
use Rattle.xm_commands.specs.declared.command.Command.TheVariants as command
use Rattle.xm_commands.specs.declared.prepared.Prepared.{Prepared}
use Rattle.xm_commands.specs.declared.refusal.Refusal.{Refusal}
use Rattle.xm_commands.specs.declared.refusal.Refusal.TheVariants as refusal
use Rattle.xm_design.specs.Designed.{Designed, IsColourRefused, IsDesigned}
use Rattle.xm_generate.specs.Generated.{generated}
use Rattle.xm_generate.specs.Law.{IsRunnable}
use Rattle.xm_json.specs.Members.{only, small_number_member}
use Rattle.xm_model.specs.Component.{Component, Content}
use Rattle.xm_model.specs.ListView.{ListView}
use Rattle.xm_model.specs.Naming.{Naming, IsNamed, naming_of}
use Rattle.xm_model.specs.Net.{Network}
use Rattle.xm_model.specs.Run.{moves}
use Rattle.xm_model.specs.Signals.{Signals}
use Rattle.xm_netlist.specs.Doc.{Doc}
use Rattle.xm_netlist.specs.Reading.{document_in}
use Rattle.xm_order.specs.Loop.{IsLoop}
use Rattle.xm_order.specs.OneRun.{OneRun}
use Rattle.xm_report.specs.Demo.{demo_text}
use Rattle.xm_report.specs.declared.demo.RunCounts.{RunCounts}
use Rattle.xm_tape.specs.Draws.{number_after, rows_drawn, seeded_rows}
use Rattle.xm_tape.specs.Gives.{Fails}
use Rattle.xm_tape.specs.Marks.{oracles_of}
use Rattle.xm_tape.specs.Reading.{draft_in, form_in, seeded_in, tape_in, taped_in}
use Rattle.xm_tape.specs.Taped.{Taped, chosen, cycles_of, rows_of}
use Rattle.xm_tape.specs.declared.fault.TapeFault.{TapeFault}
use Rattle.xm_tape.specs.declared.fault.TapeFault.TheVariants as tape_faults
use Rattle.xm_trace.specs.RunTextState.{totals_of}
use Rattle.xm_trace.specs.Runs.{IsRunOf}
use Rattle.xm_trace.specs.declared.run_text.Total.{Total}

-- ---- it is not refused

-- the document that was read is this one
one_read : (bytes : List ℕ) (doc other : Doc) → document_in bytes ≡ Ok doc → document_in bytes ≡ Ok other → other ≡ doc
one_read bytes doc other read again = cc

module _ (doc : Doc) (is : IsRunnable doc) where
  no_refusal : {bytes : List ℕ} {status : ℕ} {line : List ℕ} → document_in bytes ≡ Ok doc → Refuses bytes command.Check status line → ⊥
  no_refusal read (of_document fault fails) = cc
  no_refusal {bytes = bytes} read (of_colour other c d again refused) =
      let allow = subst (λ (x : Doc). IsColourRefused x.net x.allow c d) (one_read bytes doc other read again) refused in
      is.allowed allow.colours c d allow.first.is_pair allow.first.refused
  no_refusal {bytes = bytes} read (of_loop other loop again refused) =
      is.no_loop loop (subst (λ (x : Doc). IsLoop x.net loop) (one_read bytes doc other read again) refused.looped)
  no_refusal read (of_tape other design fault again of_other asks fails) = asks
  no_refusal read (of_persistency other design c again of_other asks first) = asks
  no_refusal read (of_width other design again of_other asks wide) = asks
  no_refusal read (of_overflow other design flow r s column again of_other asks has_flow overflows) = asks

  -- so want of memory alone is left
  pub only_memory : (bytes : List ℕ) → document_in bytes ≡ Ok doc → (r : Refusal) → IsRefusedAs bytes command.Check r → r ≡ refusal.Memory
  only_memory bytes read refusal.Memory why = refl
  only_memory bytes read (refusal.Document line) why = absurd (no_refusal read why)
  only_memory bytes read (refusal.Net line) why = absurd (no_refusal read why)
  only_memory bytes read (refusal.Tape line) why = absurd (no_refusal read why)
  only_memory bytes read (refusal.Proof line) why = absurd (no_refusal read why)
  only_memory bytes read (refusal.Overflow line) why = absurd (no_refusal read why)
  only_memory bytes read _ why = absurd why

-- ---- what was prepared

pub is_prepared : (size seed : ℕ) (bytes : List ℕ) (it : Prepared) → document_in bytes ≡ Ok (generated size seed) → IsPrepared bytes it → IsGenerated size seed it
is_prepared size seed bytes it read is =
    let same : is.doc ≡ generated size seed = one_read bytes (generated size seed) is.doc read is.read in
    let named = subst (λ (names : Naming). IsNamed is.doc.net names) (sym is.names) is.named in
    record {
      design = subst (λ (x : Doc). IsDesignOf x it.design) same is.design;
      tape = is.tape ∙ ap (λ (x : Doc). x.tape) same;
      named = subst (λ (net : Network). IsNamed net (naming_of it.names)) (sym is.design.net) named;
    }

-- ---- its tape

module _ (size seed : ℕ) (it : Prepared) (is : IsGenerated size seed it) (value : Option Data) (seen : value ≡ option_map view it.tape) where
  same_tape : tape_in (generated size seed).net (generated size seed).tape ≡ tape_in it.design.net value
  same_tape = ap₂ tape_in (sym is.design.net) (sym is.tape ∙ sym seen)

  pub taped : (tape : Taped) → tape_in it.design.net value ≡ Ok tape → tape_in (generated size seed).net (generated size seed).tape ≡ Ok tape
  taped tape read = same_tape ∙ read

  pub only_memory_of_tape : IsRunnable (generated size seed) → (fault : TapeFault) → Fails fault (tape_in it.design.net value) → fault ≡ tape_faults.OutOfMemory
  only_memory_of_tape runs fault fails = no_fault fault (subst (Fails fault) (sym same_tape) fails)
    where
      no_fault : (fault : TapeFault) → Fails fault (tape_in (generated size seed).net (generated size seed).tape) → fault ≡ tape_faults.OutOfMemory
      no_fault tape_faults.OutOfMemory fails = refl
      no_fault (tape_faults.TapeShape path) fails = let is = runs.taped.1 in cc
      no_fault (tape_faults.TapeLimit count) fails = let is = runs.taped.1 in cc
      no_fault (tape_faults.RowLength row bytes) fails = let is = runs.taped.1 in cc
      no_fault (tape_faults.BadMark row oracle) fails = let is = runs.taped.1 in cc

rows_many : (oracles : List Component) (n x : ℕ) → length (rows_drawn oracles n x) ≡ n
rows_many oracles zero x = refl
rows_many oracles (suc n) x = ap suc (rows_many oracles n (number_after (length oracles) x))

seeded_tape : ℕ → ℕ → Data
seeded_tape cycles seed = object (member (codes "cycles") (number (unsigned cycles)) (member (codes "seed") (number (unsigned seed)) no_members))

seeded : (net : Network) (cycles seed : ℕ) (tape : Taped) → cycles ≤ 10000000 → cycles * net.channels ≤ 64000000 → seed < 2 ^ 64 → tape_in net (Some (seeded_tape cycles seed)) ≡ Ok tape
    → tape ≡ record { stem = seeded_rows net.prims cycles seed; cycle = []; times = 0 }
unfolding seeded_tape tape_in draft_in form_in seeded_in small_number_member only taped_in
seeded net cycles seed tape few within small read =
    let a : nat_le cycles (2 ^ 32 - 1) ≡ true = le-leb cycles (2 ^ 32 - 1) (omega arith) in
    let b : nat_le seed (2 ^ 64 - 1) ≡ true = le-leb seed (2 ^ 64 - 1) (omega arith) in
    let c : nat_le cycles 10000000 ≡ true = le-leb cycles 10000000 few in
    let d : nat_le (cycles * net.channels) 64000000 ≡ true = le-leb (cycles * net.channels) 64000000 within in
    let e = rw (a, b, c, d) at read in
    cc

cycles_are : (net : Network) (cycles seed : ℕ) (tape : Taped) → tape ≡ record { stem = seeded_rows net.prims cycles seed; cycle = []; times = 0 } → cycles_of tape ≡ cycles
cycles_are net cycles seed tape is =
    let many = rows_many (oracles_of net.prims) cycles seed in
    ap cycles_of is ∙ omega (arith, many)

pub some_cycles : (size seed : ℕ) (tape : Taped) → size ≤ 600 → seed < 2 ^ 64 → tape_in (generated size seed).net (generated size seed).tape ≡ Ok tape → 0 < cycles_of tape
unfolding generated seeded_tape
some_cycles size seed tape few small read =
    let is = seeded (generated size seed).net 1000 seed tape (omega arith) (omega arith) small read in
    let many = cycles_are (generated size seed).net 1000 seed tape is in
    omega (arith, many)

-- ---- what is counted of its run

-- a sink that counts no faults leaves want of memory alone
pub only_memory_of_write : (r : Refusal) → IsWriteFault 0 0 r → r ≡ refusal.Memory
only_memory_of_write refusal.Memory why = refl
only_memory_of_write refusal.Write why = absurd (omega (arith, why))
only_memory_of_write _ why = absurd why

pub are_totals : OneRun → (design : Designed) → IsDesigned design → (tape : Taped) (totals : List Total)
    → ((s : ℕ → ℕ → Content) (φ : ℕ → Signals) → IsRunOf design.net tape s φ → totals ≡ totals_of (λ c d. moves φ c d (cycles_of tape)) design.net.colours design.net.channels) → AreTotals design.net tape totals
are_totals one_run design is tape totals each =
    let found = (one_run design.net design.order (cycles_of tape) (chosen design.net.prims (rows_of tape)) is.net is.order).0 in
    record { states = found.0; frames = found.1.0; run = found.1.1; same = each found.0 found.1.0 found.1.1 }

pub demonstrated : (size seed : ℕ) (it : Prepared) → IsGenerated size seed it → (tape : Taped) → tape_in (generated size seed).net (generated size seed).tape ≡ Ok tape → (totals : List Total) (are : AreTotals it.design.net tape totals)
    (counts : RunCounts) → counts ≡ run_counts it.design.net are.frames (cycles_of tape) → (text : List ℕ) → text ≡ demo_text size seed counts → IsDemonstration size seed text
demonstrated size seed it is tape read totals are counts counted text written = record {
  design = it.design;
  is_design = is.design;
  tape = tape;
  taped = read;
  states = are.states;
  frames = are.frames;
  run = subst (λ (net : Network). IsRunOf net tape are.states are.frames) is.design.net are.run;
  same = written ∙ ap (demo_text size seed) (counted ∙ ap (λ (net : Network). run_counts net are.frames (cycles_of tape)) is.design.net);
}

-- so is the text that a call made, where there was memory
pub text_demonstrated : {E : Type 0} (r : Result (ListView ℕ) E) (size seed : ℕ) (it : Prepared) → IsGenerated size seed it → (tape : Taped) → tape_in (generated size seed).net (generated size seed).tape ≡ Ok tape → (totals : List Total)
    (are : AreTotals it.design.net tape totals) (counts : RunCounts) → counts ≡ run_counts it.design.net are.frames (cycles_of tape) → IfOk r (λ text. text.items ≡ demo_text size seed counts)
    → IfOk r (λ text. IsDemonstration size seed text.items)
text_demonstrated (Ok text) size seed it is tape read totals are counts counted written = demonstrated size seed it is tape read totals are counts counted text.items written
text_demonstrated (Err e) size seed it is tape read totals are counts counted written = tt
