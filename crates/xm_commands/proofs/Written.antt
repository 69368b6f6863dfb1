-- What was written of an output, from the answer of the call that wrote it.
use Rattle.std.proofs.Common.{◌≡◌, ℕ, List, Result, Ok, Err, sym, subst}
use Rattle.std.specs.Prelude.{IfErr, IfOk, OnErr, OnOk}
use Rattle.std.specs.Io.KnownBytes.{Appends}
use Rattle.xm_commands.specs.Output.{IsOutput}
use Rattle.xm_commands.specs.Change.{Change}
use Rattle.xm_commands.specs.Inner.WhyEnded.{HasAnswered, IsCause}
use Rattle.xm_commands.specs.declared.command.Command.{Command}
use Rattle.xm_commands.specs.declared.command.Outcome.{Outcome}
use Rattle.xm_commands.specs.declared.refusal.Refusal.{Refusal}
use Rattle.xm_commands.specs.declared.refusal.Refusal.TheVariants as refusal
use Rattle.xm_io.specs.Bytes.{AppendsFront}
use Rattle.xm_io.specs.Faults.{HasCause}

pub written : {K : Type 0} (r : Result Outcome Refusal) (bytes text : List ℕ) (it : Command) (turned : Outcome) (sink : Change K) → IsOutput bytes it turned text → IfOk r (λ o. o ≡ turned) → OnOk r (Appends sink.bytes_before sink.bytes_after text)
    → OnErr r (AppendsFront sink.bytes_before sink.bytes_after text) → HasCause sink.faults_before sink.faults_after r → IfErr r (λ e. e ≡ refusal.Write) → HasAnswered bytes it sink r
written (Ok x) bytes text it turned sink is same whole front cause only = ((text, subst (λ (o : Outcome). IsOutput bytes it o text) (sym same) is, whole), cause.kept)
written (Err e) bytes text it turned sink is same whole front cause only = subst (λ (r : Refusal). IsCause bytes it sink r) (sym only) (cause.failed, (turned, text, is, front))
