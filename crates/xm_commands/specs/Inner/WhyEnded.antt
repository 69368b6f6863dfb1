-- Inner: how a command ended, with its output or with a refusal, and what it had read and written by then.
use Rattle.std.specs.Prelude.{◌≡◌, ◌⊎◌, ℕ, List, Option, Some, None, Result, Ok, Err, IsSomeAnd}
use Rattle.xm_commands.specs.Change.{Change}
use Rattle.xm_commands.specs.Refusal.{Refuses}
use Rattle.xm_commands.specs.Status.{Gave, Prints, PrintsFront, PrintsSome, PrintsWhole, most_bytes}
use Rattle.xm_commands.specs.declared.command.Command.{Command}
use Rattle.xm_commands.specs.declared.command.Outcome.{Outcome}
use Rattle.xm_commands.specs.declared.refusal.Refusal.{Refusal}
use Rattle.xm_commands.specs.declared.refusal.Refusal.TheVariants as refusal
use Rattle.xm_io.specs.Bytes.{TakesAtMost, TakesMoreThan}
use Rattle.xm_io.specs.Faults.{Rose}

-- there was no fault
abbrev pub IsUnharmed : {T : Type 0} → Change T → Type 0
IsUnharmed it = it.faults_after ≡ it.faults_before

-- nothing was done
abbrev pub IsUntouched : {T : Type 0} → Change T → Type 0
IsUntouched it = it.after ≡ it.before

-- why a text was not written: the sink's fault, or want of memory
abbrev pub IsWriteFault : ℕ → ℕ → Refusal → Type 0
IsWriteFault faults_before faults_after refusal.Write = Rose faults_before faults_after
IsWriteFault faults_before faults_after refusal.Memory = faults_after ≡ faults_before
IsWriteFault faults_before faults_after _ = ⊥

-- ---- for the bytes of a document

-- why their output was not written whole
abbrev pub IsCause : {K : Type 0} → List ℕ → Command → Change K → Refusal → Type 0
IsCause bytes it sink (refusal.Document line) = Refuses bytes it 3 line.items × IsUntouched sink
IsCause bytes it sink (refusal.Net line) = Refuses bytes it 4 line.items × IsUntouched sink
IsCause bytes it sink (refusal.Tape line) = Refuses bytes it 5 line.items × IsUntouched sink
IsCause bytes it sink (refusal.Proof line) = Refuses bytes it 5 line.items × IsUntouched sink
IsCause bytes it sink (refusal.Overflow line) = Refuses bytes it 8 line.items × IsUntouched sink
IsCause bytes it sink refusal.Write =
    Rose sink.faults_before sink.faults_after × PrintsSome bytes it sink.bytes_before sink.bytes_after
IsCause bytes it sink refusal.Memory =
    IsUnharmed sink × (IsUntouched sink ⊎ PrintsSome bytes it sink.bytes_before sink.bytes_after)
IsCause bytes it sink _ = ⊥

-- how the command ended
abbrev pub HasAnswered : {K : Type 0} → List ℕ → Command → Change K → Result Outcome Refusal → Type 0
HasAnswered bytes it sink (Ok turned) =
    PrintsWhole bytes it turned sink.bytes_before sink.bytes_after × IsUnharmed sink
HasAnswered bytes it sink (Err refusal) = IsCause bytes it sink refusal

-- ---- for a source, and the command that the words call, if any

-- the command refuses the bytes that were read, and writes nothing
pub record IsInputRefused {S K : Type 0} (it : Command) (source : Change S) (sink : Change K) (status : ℕ)
    (line : List ℕ) : Type 0 where
  pub bytes : List ℕ
  pub gave : Gave source.bytes_before source.bytes_after bytes
  pub refused : Refuses bytes it status line
  pub unharmed : IsUnharmed source
  pub quiet : IsUntouched sink

-- why the command ended with another status than 0
abbrev pub IsWhy : {S K : Type 0} → Command → Change S → Change K → Refusal → Type 0
IsWhy it source sink refusal.Words = ⊥
IsWhy it source sink (refusal.Document line) = IsInputRefused it source sink 3 line.items
IsWhy it source sink (refusal.Net line) = IsInputRefused it source sink 4 line.items
IsWhy it source sink (refusal.Tape line) = IsInputRefused it source sink 5 line.items
IsWhy it source sink (refusal.Proof line) = IsInputRefused it source sink 5 line.items
IsWhy it source sink (refusal.Overflow line) = IsInputRefused it source sink 8 line.items
IsWhy it source sink refusal.Read =
    Rose source.faults_before source.faults_after × TakesAtMost most_bytes source.bytes_before source.bytes_after
    × IsUntouched sink
IsWhy it source sink refusal.Write =
    Rose sink.faults_before sink.faults_after × IsUnharmed source
    × PrintsFront it source.bytes_before source.bytes_after sink.bytes_before sink.bytes_after
IsWhy it source sink refusal.Memory =
    IsUnharmed source × IsUnharmed sink × (IsUntouched sink
    ⊎ PrintsFront it source.bytes_before source.bytes_after sink.bytes_before sink.bytes_after)
IsWhy it source sink refusal.TooLong =
    TakesMoreThan most_bytes source.bytes_before source.bytes_after × IsUnharmed source × IsUntouched sink

-- why the program ended with another status than 0: without a command it has read and written nothing
abbrev pub IsNoCommand : Refusal → Type 0
IsNoCommand refusal.Words = Unit {0}
IsNoCommand refusal.Memory = Unit {0}
IsNoCommand _ = ⊥

abbrev pub IsWhyCalled : {S K : Type 0} → Option Command → Change S → Change K → Refusal → Type 0
IsWhyCalled None source sink refusal =
    IsNoCommand refusal × IsUntouched source × IsUntouched sink × IsUnharmed source × IsUnharmed sink
IsWhyCalled (Some it) source sink refusal = IsWhy it source sink refusal

-- how the program ended: it printed the output of the command that the words call, or it refused
abbrev pub HasEnded : {S K : Type 0} → Option Command → Change S → Change K → Result Outcome Refusal → Type 0
HasEnded called source sink (Ok turned) =
    IsSomeAnd called
    (λ it. Prints it turned source.bytes_before source.bytes_after sink.bytes_before sink.bytes_after)
    × IsUnharmed source × IsUnharmed sink
HasEnded called source sink (Err refusal) = IsWhyCalled called source sink refusal
