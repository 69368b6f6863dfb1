-- How the program ended with a status: what it read, what it wrote, and what it told of a refusal.
use Rattle.std.specs.Prelude.{◌≡◌, ◌≢◌, ◌⊎◌, ◌≤◌, ℕ, true, false, List, length, Option, Some, None}
use Rattle.xm_commands.specs.Calls.{reads_document}
use Rattle.xm_commands.specs.Change.{Change}
use Rattle.xm_commands.specs.Drawn.{PrintsDrawn, PrintsDrawnFront, ends_drawn}
use Rattle.xm_commands.specs.Output.{IsOutput}
use Rattle.xm_commands.specs.Status.{IsExpected, IsRefused, Prints, PrintsFront, Tells, is_done, is_of_input, is_status, most_bytes}
use Rattle.xm_commands.specs.Status.{outcome_status}
use Rattle.xm_commands.specs.declared.call.Call.{Call}
use Rattle.xm_commands.specs.declared.call.Call.TheVariants as call
use Rattle.xm_commands.specs.declared.command.Command.{Command}
use Rattle.xm_commands.specs.declared.command.Outcome.{Outcome}
use Rattle.xm_io.specs.Bytes.{TakesAtMost, TakesMoreThan}
use Rattle.xm_io.specs.Faults.{Rose}

-- What the status says, of the call that the words make, if any, of the source, the output and the errors.
pub record IsServed {S K E : Type 0} (called : Option Call) (source : Change S) (out : Change K) (err : Change E)
    (status : ℕ) : Type 0 where
  pub known : is_status status ≡ true
  pub words : status ≡ 2 → called ≡ None
  pub unknown : called ≡ None → (status ≡ 2) ⊎ (status ≡ 9)
  pub unread : reads_document called ≡ false → source.after ≡ source.before
  pub unwritten : called ≡ None → out.after ≡ out.before
  pub refused : (command : Command) → called ≡ Some (call.Obey command) → is_of_input status ≡ true
      → IsRefused command status source.bytes_before source.bytes_after err.bytes_before err.bytes_after
      err.faults_before err.faults_after
  pub read : status ≡ 6 → Rose source.faults_before source.faults_after
  pub read_within : status ≡ 6 → TakesAtMost most_bytes source.bytes_before source.bytes_after
  pub read_unharmed : status ≢ 6 → source.faults_after ≡ source.faults_before
  pub too_long : status ≡ 10 → TakesMoreThan most_bytes source.bytes_before source.bytes_after
  pub written : (command : Command) (turned : Outcome) → called ≡ Some (call.Obey command)
      → status ≡ outcome_status turned
      → Prints command turned source.bytes_before source.bytes_after out.bytes_before out.bytes_after
  pub write : status ≡ 7 → Rose out.faults_before out.faults_after
  pub write_unharmed : status ≢ 7 → out.faults_after ≡ out.faults_before
  pub front : (command : Command) → called ≡ Some (call.Obey command) → status ≡ 7
      → PrintsFront command source.bytes_before source.bytes_after out.bytes_before out.bytes_after
  pub memory : (command : Command) → called ≡ Some (call.Obey command) → status ≡ 9 → (out.after ≡ out.before)
      ⊎ PrintsFront command source.bytes_before source.bytes_after out.bytes_before out.bytes_after
  pub quiet : is_done status ≡ false → status ≢ 7 → status ≢ 9 → out.after ≡ out.before
  pub complete : (command : Command) (turned : Outcome) (bytes text : List ℕ) → called ≡ Some (call.Obey command)
      → source.bytes_before ≡ Some bytes → length bytes ≤ most_bytes → IsOutput bytes command turned text
      → ¬ (Rose source.faults_before source.faults_after) → ¬ (Rose out.faults_before out.faults_after)
      → IsExpected command turned status
  pub drawn : (it : Call) → called ≡ Some it → reads_document called ≡ false → status ≡ 0
      → PrintsDrawn it out.bytes_before out.bytes_after
  pub drawn_front : (it : Call) → called ≡ Some it → reads_document called ≡ false → status ≡ 7
      → PrintsDrawnFront it out.bytes_before out.bytes_after
  pub drawn_memory : (it : Call) → called ≡ Some it → reads_document called ≡ false → status ≡ 9
      → out.after ≡ out.before
  pub drawn_status : (it : Call) → called ≡ Some it → reads_document called ≡ false → ends_drawn status ≡ true
  pub silent : is_done status ≡ true → err.after ≡ err.before
  pub told : is_done status ≡ false → is_of_input status ≡ false
      → Tells status err.bytes_before err.bytes_after err.faults_before err.faults_after
