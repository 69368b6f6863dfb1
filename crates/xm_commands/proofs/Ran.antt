-- The text of a tape's run is the output of `run`; how such an output was written.
use Rattle.std.proofs.Common.{◌≡◌, ℕ, List, Option, Result, Ok, Err, Some, None, Bor, ap, ap₂, sym, ◌∙◌, refl, subst, inr}
use Rattle.std.specs.Io.KnownBytes.{Appends}
use Rattle.std.specs.Prelude.{IfErr, IfOk, OnErr, OnOk, option_copied, option_map}
use Rattle.serde_json.specs.Data.{Data}
use Rattle.serde_json.specs.View.{view}
use Rattle.serde_json.specs.declared.value.Value.{Value}
use Rattle.xm_io.specs.Bytes.{AppendsFront}
use Rattle.xm_model.specs.Component.{Content}
use Rattle.xm_model.specs.Naming.{naming_of}
use Rattle.xm_model.specs.Signals.{Signals}
use Rattle.xm_order.specs.OneRun.{OneRun}
use Rattle.xm_tape.specs.Gives.{Fails}
use Rattle.xm_tape.specs.Reading.{tape_in}
use Rattle.xm_tape.specs.Taped.{Taped, chosen, cycles_of, rows_of}
use Rattle.xm_tape.specs.declared.fault.TapeFault.{TapeFault}
use Rattle.xm_trace.specs.Runs.{IsRunOf}
use Rattle.xm_trace.specs.Text.{IsTextOfRun, run_text}
use Rattle.xm_commands.specs.Output.{IsOutput, of_run}
use Rattle.xm_commands.specs.Change.{Change}
use Rattle.xm_commands.specs.Inner.WhyEnded.{HasAnswered, IsCause, IsUnharmed, IsWriteFault}
use Rattle.xm_commands.specs.Inner.Prepared.{IsPrepared}
use Rattle.xm_commands.specs.declared.command.Command.{Command}
use Rattle.xm_commands.specs.declared.command.Command.TheVariants as command
use Rattle.xm_commands.specs.declared.command.Outcome.{Outcome}
use Rattle.xm_commands.specs.declared.command.Outcome.TheVariants as outcome
use Rattle.xm_commands.specs.declared.prepared.Prepared.{Prepared}
use Rattle.xm_commands.specs.declared.refusal.Refusal.{Refusal}
use Rattle.xm_commands.specs.declared.refusal.Refusal.TheVariants as refusal

-- the value of a lent option
pub lent_value : (it : Option Value) (lent : Option (Bor Value)) → option_copied lent ≡ it → option_map (λ v. view v.now) lent ≡ option_map view it
lent_value it None same = ap (option_map view) same
lent_value it (Some v) same = ap (option_map view) same

-- the tape that was read is the document's, and so is a fault of it
module _ (bytes : List ℕ) (it : Prepared) (is : IsPrepared bytes it) (value : Option Data) (seen : value ≡ option_map view it.tape) where
  same_tape : tape_in is.doc.net is.doc.tape ≡ tape_in it.design.net value
  same_tape = ap₂ tape_in (sym is.design.net) (sym is.tape ∙ sym seen)

  pub taped : (tape : Taped) → tape_in it.design.net value ≡ Ok tape → tape_in is.doc.net is.doc.tape ≡ Ok tape
  taped tape read = same_tape ∙ read

  pub untaped : (fault : TapeFault) → Fails fault (tape_in it.design.net value) → Fails fault (tape_in is.doc.net is.doc.tape)
  untaped fault fails = subst (Fails fault) (sym same_tape) fails

pub record Ran (bytes : List ℕ) (it : Prepared) (tape : Taped) : Type 0 where
  pub states : ℕ → ℕ → Content
  pub frames : ℕ → Signals
  pub run : IsRunOf it.design.net tape states frames
  pub text : List ℕ
  pub is_text : IsTextOfRun it.design.net (naming_of it.names) tape text
  pub same : text ≡ run_text (naming_of it.names) frames (cycles_of tape)
  pub is_output : IsOutput bytes command.Run outcome.Yes text

pub ran : OneRun → (bytes : List ℕ) (it : Prepared) (is : IsPrepared bytes it) (tape : Taped) → tape_in is.doc.net is.doc.tape ≡ Ok tape → Ran bytes it tape
ran one_run bytes it is tape read =
    let net = it.design.net in
    let designed = is.design.designed in
    let found = (one_run net it.design.order (cycles_of tape) (chosen net.prims (rows_of tape)) designed.net designed.order).0 in
    let text = run_text (naming_of it.names) found.1.0 (cycles_of tape) in
    let is_text : IsTextOfRun net (naming_of it.names) tape text = record { states = found.0; frames = found.1.0; run = found.1.1; same = refl } in
    let of_doc : IsTextOfRun is.doc.net is.doc.names tape text = subst (λ net. IsTextOfRun net is.doc.names tape text) is.design.net (subst (λ names. IsTextOfRun net names tape text) is.names is_text) in
    record {
      states = found.0;
      frames = found.1.0;
      run = found.1.1;
      text = text;
      is_text = is_text;
      same = refl;
      is_output = of_run is.doc it.design tape text is.read is.design read of_doc;
    }

-- why an output that turns out well was not written whole, from the answer of the call that wrote it
pub output_failed : {K : Type 0} (r : Refusal) (bytes text : List ℕ) (it : Command) (sink : Change K) → IsOutput bytes it outcome.Yes text → AppendsFront sink.bytes_before sink.bytes_after text
    → IsWriteFault sink.faults_before sink.faults_after r → IsCause bytes it sink r
output_failed refusal.Write bytes text it sink is front cause = (cause, (outcome.Yes, text, is, front))
output_failed refusal.Memory bytes text it sink is front cause = (cause, inr (outcome.Yes, text, is, front))
output_failed _ bytes text it sink is front cause = absurd cause

-- how such an output ended
pub output_ended : {K : Type 0} (r : Result Outcome Refusal) (bytes text : List ℕ) (it : Command) (sink : Change K) → IsOutput bytes it outcome.Yes text → IfOk r (λ it. it ≡ outcome.Yes)
    → OnOk r (Appends sink.bytes_before sink.bytes_after text) → OnErr r (AppendsFront sink.bytes_before sink.bytes_after text) → OnOk r (IsUnharmed sink) → IfErr r (IsWriteFault sink.faults_before sink.faults_after)
    → HasAnswered bytes it sink r
output_ended (Ok o) bytes text it sink is same whole front unharmed cause = ((text, subst (λ (o : Outcome). IsOutput bytes it o text) (sym same) is, whole), unharmed)
output_ended (Err why) bytes text it sink is same whole front unharmed cause = output_failed why bytes text it sink is front cause
