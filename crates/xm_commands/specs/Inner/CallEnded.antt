-- Inner: how a call ended.
use Rattle.std.specs.Prelude.{◌≡◌, ◌≤◌, ◌<◌, ◌^◌, ℕ, Option, Some, None, Result, Ok, Err}
use Rattle.xm_commands.specs.Drawn.{PrintsDrawn, PrintsDrawnFront}
use Rattle.xm_commands.specs.Inner.Plain.{IsPlain}
use Rattle.xm_commands.specs.Change.{Change}
use Rattle.xm_commands.specs.Inner.WhyEnded.{HasEnded, IsUnharmed, IsUntouched}
use Rattle.xm_commands.specs.declared.call.Call.{Call}
use Rattle.xm_commands.specs.declared.call.Call.TheVariants as call
use Rattle.xm_commands.specs.declared.call.Demonstration.{Demonstration}
use Rattle.xm_commands.specs.declared.command.Outcome.{Outcome}
use Rattle.xm_commands.specs.declared.command.Outcome.TheVariants as outcome
use Rattle.xm_commands.specs.declared.refusal.Refusal.{Refusal}
use Rattle.xm_commands.specs.declared.refusal.Refusal.TheVariants as refusal
use Rattle.xm_commands.specs.Status.{Gave, IsTold, line_of, most_bytes, outcome_status, status_of}
use Rattle.xm_io.specs.Bytes.{TakesAtMost, TakesMoreThan}
use Rattle.xm_io.specs.Faults.{Rose}
use Rattle.xm_model.specs.ListView.{ListView}

-- a command that needs no workers, or a line of 2 to 600 stations
abbrev pub IsWithin : Call → Type 0
IsWithin (call.Obey command) = IsPlain command
IsWithin (call.Generate size seed) = (2 ≤ size) × (size ≤ 600)
IsWithin (call.Demonstrate it) = ⊥

-- it has a line of 2 to 600 stations, as many parts and workers as it may have, and a seed of 64 bits
abbrev pub IsDemonstrable : Demonstration → Type 0
IsDemonstrable it =
    (2 ≤ it.size) × (it.size ≤ 600) × (1 ≤ it.parts) × (it.parts ≤ 64) × (it.workers ≤ 64) × (it.seed < 2 ^ 64)

-- how the text of a call that reads no document was written
abbrev pub HasDrawn : {K : Type 0} → Call → Change K → Result Outcome Refusal → Type 0
HasDrawn it sink (Ok turned) =
    (turned ≡ outcome.Yes) × PrintsDrawn it sink.bytes_before sink.bytes_after × IsUnharmed sink
HasDrawn it sink (Err refusal.Write) =
    Rose sink.faults_before sink.faults_after × PrintsDrawnFront it sink.bytes_before sink.bytes_after
HasDrawn it sink (Err refusal.Memory) = IsUntouched sink × IsUnharmed sink
HasDrawn it sink (Err _) = ⊥

-- how the call ended that the words make, if any: only a command reads the source
abbrev pub HasCalled : {S K : Type 0} → Option Call → Change S → Change K → Result Outcome Refusal → Type 0
HasCalled None source sink ended = HasEnded None source sink ended
HasCalled (Some (call.Obey command)) source sink ended = HasEnded (Some command) source sink ended
HasCalled (Some (call.Generate size seed)) source sink ended =
    HasDrawn (call.Generate size seed) sink ended × IsUntouched source × IsUnharmed source
HasCalled (Some (call.Demonstrate it)) source sink ended =
    HasDrawn (call.Demonstrate it) sink ended × IsUntouched source × IsUnharmed source

-- the bytes of a document were read, or why they were not
abbrev pub HasRead : {S : Type 0} → Change S → Result (ListView ℕ) Refusal → Type 0
HasRead source (Ok bytes) = Gave source.bytes_before source.bytes_after bytes.items × IsUnharmed source
HasRead source (Err refusal.Read) =
    Rose source.faults_before source.faults_after × TakesAtMost most_bytes source.bytes_before source.bytes_after
HasRead source (Err refusal.Memory) = IsUnharmed source
HasRead source (Err refusal.TooLong) =
    TakesMoreThan most_bytes source.bytes_before source.bytes_after × IsUnharmed source
HasRead source (Err _) = ⊥

-- the status of how a call ended; a refusal's line was told
abbrev pub HasConcluded : {E : Type 0} → Result Outcome Refusal → Change E → ℕ → Type 0
HasConcluded (Ok turned) err status = (status ≡ outcome_status turned) × IsUntouched err
HasConcluded (Err refusal) err status =
    (status ≡ status_of refusal)
    × IsTold (line_of refusal) err.bytes_before err.bytes_after err.faults_before err.faults_after
