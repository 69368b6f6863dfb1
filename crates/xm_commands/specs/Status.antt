-- The statuses and lines of error, and what was read and written with each.
use Rattle.std.specs.Prelude.{◌≡◌, ◌⊎◌, ℕ, true, ◌≤◌, List, ◌||◌, ◌==◌, Bool, codes, length}
use Rattle.std.specs.declared.option.Option.{Option}
use Rattle.std.specs.Io.KnownBytes.{Appends}
use Rattle.xm_commands.specs.Output.{IsOutput}
use Rattle.xm_commands.specs.Refusal.{Refuses}
use Rattle.xm_commands.specs.declared.command.Command.{Command}
use Rattle.xm_commands.specs.declared.command.Command.TheVariants as command
use Rattle.xm_commands.specs.declared.command.Outcome.{Outcome}
use Rattle.xm_commands.specs.declared.command.Outcome.TheVariants as outcome
use Rattle.xm_commands.specs.declared.refusal.Refusal.{Refusal}
use Rattle.xm_commands.specs.declared.refusal.Refusal.TheVariants as refusal
use Rattle.xm_io.specs.Bytes.{AppendsFront, ReadsWhole}
use Rattle.xm_io.specs.Faults.{Rose}

-- ---- statuses and their lines

-- the status of an output that was written whole
abbrev pub outcome_status : Outcome → ℕ
outcome_status outcome.Yes = 0
outcome_status outcome.No = 1

abbrev pub status_of : Refusal → ℕ
status_of refusal.Words = 2
status_of (refusal.Document line) = 3
status_of (refusal.Net line) = 4
status_of (refusal.Tape line) = 5
status_of (refusal.Proof line) = 5
status_of refusal.Read = 6
status_of refusal.Write = 7
status_of (refusal.Overflow line) = 8
status_of refusal.Memory = 9
status_of refusal.TooLong = 10

abbrev pub line_of : Refusal → List ℕ
line_of refusal.Words = codes "words\n"
line_of (refusal.Document line) = line.items
line_of (refusal.Net line) = line.items
line_of (refusal.Tape line) = line.items
line_of (refusal.Proof line) = line.items
line_of refusal.Read = codes "read\n"
line_of refusal.Write = codes "write\n"
line_of (refusal.Overflow line) = line.items
line_of refusal.Memory = codes "memory\n"
line_of refusal.TooLong = codes "too long\n"

-- the statuses that there are
abbrev pub is_status : ℕ → Bool
is_status n =
    (n == 0) || (n == 1) || (n == 2) || (n == 3) || (n == 4) || (n == 5) || (n == 6) || (n == 7) || (n == 8)
    || (n == 9) || (n == 10)

-- the statuses of an output that was written whole
abbrev pub is_done : ℕ → Bool
is_done n = (n == 0) || (n == 1)

-- the status for bytes that have this output, where no call fails: that of the output; of a search any that ends it, or
-- that it leaves 128 bits; or else want of memory
abbrev pub IsExpected : Command → Outcome → ℕ → Type 0
IsExpected (command.Prove budget) turned status = (is_done status ≡ true) ⊎ ((status ≡ 8) ⊎ (status ≡ 9))
IsExpected _ turned status = (status ≡ outcome_status turned) ⊎ (status ≡ 9)

-- the statuses of a document, its net, its tape, its proof and its invariants
abbrev pub is_of_input : ℕ → Bool
is_of_input n = (n == 3) || (n == 4) || (n == 5) || (n == 8)

-- the statuses whose line of error is always the same, and that line
pub data IsPlainLine : ℕ → List ℕ → Type 0 where
  words : IsPlainLine 2 (codes "words\n")
  read : IsPlainLine 6 (codes "read\n")
  write : IsPlainLine 7 (codes "write\n")
  memory : IsPlainLine 9 (codes "memory\n")
  too_long : IsPlainLine 10 (codes "too long\n")

-- ---- what was read

-- the most bytes that a document may have: 16 MiB
abbrev pub most_bytes : ℕ
most_bytes = 16777216

-- The source was read to its end and gave these bytes, no more than a document may have.
pub record Gave (left_before left_after : Option (List ℕ)) (bytes : List ℕ) : Type 0 where
  pub whole : ReadsWhole left_before left_after bytes
  pub within : length bytes ≤ most_bytes

-- ---- what was written

-- The output of the command for these bytes was appended whole, or a front of it was.
abbrev pub PrintsWhole : List ℕ → Command → Outcome → Option (List ℕ) → Option (List ℕ) → Type 0
PrintsWhole bytes command turned held_before held_after =
    (text : List ℕ) × IsOutput bytes command turned text × Appends held_before held_after text

abbrev pub PrintsSome : List ℕ → Command → Option (List ℕ) → Option (List ℕ) → Type 0
PrintsSome bytes command held_before held_after =
    (turned : Outcome) × (text : List ℕ) × IsOutput bytes command turned text
    × AppendsFront held_before held_after text

-- The source was read to its end, and the output for its bytes was appended whole.
pub record Prints (command : Command) (turned : Outcome) (left_before left_after : Option (List ℕ))
    (held_before held_after : Option (List ℕ)) : Type 0 where
  pub bytes : List ℕ
  pub gave : Gave left_before left_after bytes
  pub printed : PrintsWhole bytes command turned held_before held_after

-- The source was read to its end, and a front of the output for its bytes was appended.
pub record PrintsFront (command : Command) (left_before left_after : Option (List ℕ))
    (held_before held_after : Option (List ℕ)) : Type 0 where
  pub bytes : List ℕ
  pub gave : Gave left_before left_after bytes
  pub printed : PrintsSome bytes command held_before held_after

-- ---- lines of error

-- The line was appended as far as the sink took it, and whole where the sink has no fault.
pub record IsTold (line : List ℕ) (held_before held_after : Option (List ℕ))
    (faults_before faults_after : ℕ) : Type 0 where
  pub front : AppendsFront held_before held_after line
  pub whole : (Rose faults_before faults_after → ⊥) → Appends held_before held_after line

-- The source was read to its end, and the command refuses its bytes with this status; its line was told.
pub record IsRefused (command : Command) (status : ℕ) (left_before left_after : Option (List ℕ))
    (held_before held_after : Option (List ℕ)) (faults_before faults_after : ℕ) : Type 0 where
  pub bytes : List ℕ
  pub gave : Gave left_before left_after bytes
  pub line : List ℕ
  pub refused : Refuses bytes command status line
  pub told : IsTold line held_before held_after faults_before faults_after

-- The status's own line was told.
pub record Tells (status : ℕ) (held_before held_after : Option (List ℕ))
    (faults_before faults_after : ℕ) : Type 0 where
  pub line : List ℕ
  pub is_line : IsPlainLine status line
  pub told : IsTold line held_before held_after faults_before faults_after
