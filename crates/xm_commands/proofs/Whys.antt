-- What each clause of the top call says, from how the program ended.
use Rattle.std.proofs.Common.{◌≡◌, ◌≢◌, ◌≤◌, ℕ, true, false, List, ◌++◌, length, Option, Some, None, Result, Ok, Err, refl, sym, ap, ◌∙◌, subst, arith}
use Rattle.std.proofs.lemmas.List.{append-nil, length-append}
use Rattle.std.proofs.Common.{◌⊎◌, inl, inr}
use Rattle.std.specs.Prelude.{IsSomeAnd, ◌==◌}
use Rattle.std.proofs.lemmas.Bool.{cases_Bool}
use Rattle.xm_commands.proofs.OneAnswer.{excludes}
use Rattle.xm_commands.specs.Output.{IsOutput, of_sim, of_watched}
use Rattle.xm_commands.specs.Status.{Gave, IsExpected, IsRefused, IsTold, Prints, PrintsFront, Tells, is_done, is_of_input, is_status, line_of, most_bytes}
use Rattle.xm_commands.specs.Status.{outcome_status, status_of}
use Rattle.xm_commands.specs.Status as plain
use Rattle.xm_commands.specs.Change.{Change}
use Rattle.xm_commands.specs.Inner.CallEnded.{HasRead}
use Rattle.xm_commands.specs.Inner.WhyEnded.{HasAnswered, HasEnded, IsInputRefused, IsUnharmed, IsUntouched, IsWhy, IsWhyCalled}
use Rattle.xm_commands.specs.OneAnswer.{OneOutput, has_one_refusal, may_differ}
use Rattle.xm_commands.specs.declared.command.Command.{Command}
use Rattle.xm_commands.specs.declared.command.Command.TheVariants as command
use Rattle.xm_commands.specs.declared.command.Outcome.{Outcome}
use Rattle.xm_commands.specs.declared.command.Outcome.TheVariants as outcome
use Rattle.xm_commands.specs.declared.command.Simulation.{Simulation}
use Rattle.xm_commands.specs.declared.refusal.Refusal.{Refusal}
use Rattle.xm_commands.specs.declared.refusal.Refusal.TheVariants as refusal
use Rattle.xm_elim.specs.Elimination.{ExclusiveEnds}
use Rattle.xm_io.specs.Bytes.{ReadsWhole, TakesAtMost, TakesMoreThan}
use Rattle.xm_io.specs.Faults.{Rose}
use Rattle.xm_order.specs.Loop.{NoLoop}

-- ---- from the bytes to the source

pub ok_is_no_err : {T E : Type 0} (x : T) (e : E) → Ok x ≢ Err e
ok_is_no_err x e = λ same. cc

-- the command has ended for the bytes that were read
pub read_whole : {S K : Type 0} (it : Command) (source : Change S) (sink : Change K) (bytes : List ℕ) (r : Result Outcome Refusal) → Gave source.bytes_before source.bytes_after bytes → IsUnharmed source
    → HasAnswered bytes it sink r → HasEnded (Some it) source sink r
read_whole it source sink bytes (Ok turned) gave unharmed answered = (record { bytes = bytes; gave = gave; printed = answered.0 }, unharmed, answered.1)
read_whole it source sink bytes (Err refusal.Words) gave unharmed answered = answered
read_whole it source sink bytes (Err (refusal.Document line)) gave unharmed answered = record { bytes = bytes; gave = gave; refused = answered.0; unharmed = unharmed; quiet = answered.1 }
read_whole it source sink bytes (Err (refusal.Net line)) gave unharmed answered = record { bytes = bytes; gave = gave; refused = answered.0; unharmed = unharmed; quiet = answered.1 }
read_whole it source sink bytes (Err (refusal.Tape line)) gave unharmed answered = record { bytes = bytes; gave = gave; refused = answered.0; unharmed = unharmed; quiet = answered.1 }
read_whole it source sink bytes (Err (refusal.Proof line)) gave unharmed answered = record { bytes = bytes; gave = gave; refused = answered.0; unharmed = unharmed; quiet = answered.1 }
read_whole it source sink bytes (Err (refusal.Overflow line)) gave unharmed answered = record { bytes = bytes; gave = gave; refused = answered.0; unharmed = unharmed; quiet = answered.1 }
read_whole it source sink bytes (Err refusal.Read) gave unharmed answered = absurd answered
read_whole it source sink bytes (Err refusal.Write) gave unharmed answered = (answered.0, unharmed, record { bytes = bytes; gave = gave; printed = answered.1 })
read_whole it source sink bytes (Err refusal.Memory) gave unharmed answered = (
  unharmed,
  answered.0,
  elim answered.1 [
    | inl same ↦ inl same
    | inr some ↦ inr (record { bytes = bytes; gave = gave; printed = some })
  ],
)
read_whole it source sink bytes (Err refusal.TooLong) gave unharmed answered = absurd answered

-- the bytes were not read
pub not_read : {S K : Type 0} (it : Command) (source : Change S) (sink : Change K) (r : Refusal) → HasRead source (Err r) → IsUntouched sink → IsUnharmed sink → HasEnded (Some it) source sink (Err r)
not_read it source sink refusal.Read why same unharmed = (why.0, why.1, same)
not_read it source sink refusal.Memory why same unharmed = (why, unharmed, inl same)
not_read it source sink refusal.TooLong why same unharmed = (why.0, why.1, same)
not_read it source sink _ why same unharmed = absurd why

-- ---- from the source to the words

-- no memory for the words
pub no_memory : {S K : Type 0} (called : Option Command) (source : Change S) (sink : Change K) → IsUntouched source → IsUntouched sink → IsUnharmed source → IsUnharmed sink
    → IsWhyCalled called source sink refusal.Memory
no_memory None source sink same_source same_sink unharmed_source unharmed_sink = (tt, same_source, same_sink, unharmed_source, unharmed_sink)
no_memory (Some it) source sink same_source same_sink unharmed_source unharmed_sink = (unharmed_source, unharmed_sink, inl same_sink)

-- a command was called
pub some_called : (P : Command → Type 0) (called : Option Command) → IsSomeAnd called P → called ≡ None → ⊥
some_called P None is none = is
some_called P (Some it) is none = cc

pub called_is : (P : Command → Type 0) (called : Option Command) (it : Command) → IsSomeAnd called P → called ≡ Some it → P it
called_is P None it is same = absurd is
called_is P (Some other) it is same = let e : other ≡ it = cc in subst P e is

-- ---- what a refusal says of each clause

module _ {S K : Type 0} (source : Change S) (sink : Change K) where
  pub why_words : (called : Option Command) (r : Refusal) → IsWhyCalled called source sink r → status_of r ≡ 2 → called ≡ None
  why_words None r why is = refl
  why_words (Some it) refusal.Words why is = absurd why
  why_words (Some it) _ why is = absurd (omega arith)

  pub why_unknown : (called : Option Command) (r : Refusal) → IsWhyCalled called source sink r → called ≡ None → (status_of r ≡ 2) ⊎ (status_of r ≡ 9)
  why_unknown None refusal.Words why none = inl refl
  why_unknown None refusal.Memory why none = inr refl
  why_unknown None _ why none = absurd why.0
  why_unknown (Some it) r why none = cc

  pub why_unread : (called : Option Command) (r : Refusal) → IsWhyCalled called source sink r → called ≡ None → IsUntouched source
  why_unread None r why none = why.1
  why_unread (Some it) r why none = cc

  pub why_unwritten : (called : Option Command) (r : Refusal) → IsWhyCalled called source sink r → called ≡ None → IsUntouched sink
  why_unwritten None r why none = why.2
  why_unwritten (Some it) r why none = cc

  pub why_read : (called : Option Command) (r : Refusal) → IsWhyCalled called source sink r → status_of r ≡ 6 → Rose source.faults_before source.faults_after
  why_read None refusal.Read why is = absurd why.0
  why_read (Some it) refusal.Read why is = why.0
  why_read _ _ why is = absurd (omega arith)

  pub why_read_within : (called : Option Command) (r : Refusal) → IsWhyCalled called source sink r → status_of r ≡ 6 → TakesAtMost most_bytes source.bytes_before source.bytes_after
  why_read_within None refusal.Read why is = absurd why.0
  why_read_within (Some it) refusal.Read why is = why.1
  why_read_within _ _ why is = absurd (omega arith)

  pub why_read_unharmed : (called : Option Command) (r : Refusal) → IsWhyCalled called source sink r → status_of r ≢ 6 → IsUnharmed source
  why_read_unharmed None r why other = why.3
  why_read_unharmed (Some it) refusal.Words why other = absurd why
  why_read_unharmed (Some it) (refusal.Document line) why other = why.unharmed
  why_read_unharmed (Some it) (refusal.Net line) why other = why.unharmed
  why_read_unharmed (Some it) (refusal.Tape line) why other = why.unharmed
  why_read_unharmed (Some it) (refusal.Proof line) why other = why.unharmed
  why_read_unharmed (Some it) (refusal.Overflow line) why other = why.unharmed
  why_read_unharmed (Some it) refusal.Read why other = absurd (other refl)
  why_read_unharmed (Some it) refusal.Write why other = why.1
  why_read_unharmed (Some it) refusal.Memory why other = why.0
  why_read_unharmed (Some it) refusal.TooLong why other = why.1

  pub why_too_long : (called : Option Command) (r : Refusal) → IsWhyCalled called source sink r → status_of r ≡ 10 → TakesMoreThan most_bytes source.bytes_before source.bytes_after
  why_too_long None refusal.TooLong why is = absurd why.0
  why_too_long (Some it) refusal.TooLong why is = why.0
  why_too_long _ _ why is = absurd (omega arith)

  pub why_write : (called : Option Command) (r : Refusal) → IsWhyCalled called source sink r → status_of r ≡ 7 → Rose sink.faults_before sink.faults_after
  why_write None refusal.Write why is = absurd why.0
  why_write (Some it) refusal.Write why is = why.0
  why_write _ _ why is = absurd (omega arith)

  pub why_write_unharmed : (called : Option Command) (r : Refusal) → IsWhyCalled called source sink r → (IsUntouched sink → IsUnharmed sink) → status_of r ≢ 7 → IsUnharmed sink
  why_write_unharmed None r why harmless other = why.4
  why_write_unharmed (Some it) refusal.Words why harmless other = absurd why
  why_write_unharmed (Some it) (refusal.Document line) why harmless other = harmless why.quiet
  why_write_unharmed (Some it) (refusal.Net line) why harmless other = harmless why.quiet
  why_write_unharmed (Some it) (refusal.Tape line) why harmless other = harmless why.quiet
  why_write_unharmed (Some it) (refusal.Proof line) why harmless other = harmless why.quiet
  why_write_unharmed (Some it) (refusal.Overflow line) why harmless other = harmless why.quiet
  why_write_unharmed (Some it) refusal.Read why harmless other = harmless why.2
  why_write_unharmed (Some it) refusal.Write why harmless other = absurd (other refl)
  why_write_unharmed (Some it) refusal.Memory why harmless other = why.1
  why_write_unharmed (Some it) refusal.TooLong why harmless other = harmless why.2

  pub why_quiet : (called : Option Command) (r : Refusal) → IsWhyCalled called source sink r → status_of r ≢ 7 → status_of r ≢ 9 → IsUntouched sink
  why_quiet None r why not_write not_memory = why.2
  why_quiet (Some it) refusal.Words why not_write not_memory = absurd why
  why_quiet (Some it) (refusal.Document line) why not_write not_memory = why.quiet
  why_quiet (Some it) (refusal.Net line) why not_write not_memory = why.quiet
  why_quiet (Some it) (refusal.Tape line) why not_write not_memory = why.quiet
  why_quiet (Some it) (refusal.Proof line) why not_write not_memory = why.quiet
  why_quiet (Some it) (refusal.Overflow line) why not_write not_memory = why.quiet
  why_quiet (Some it) refusal.Read why not_write not_memory = why.2
  why_quiet (Some it) refusal.Write why not_write not_memory = absurd (not_write refl)
  why_quiet (Some it) refusal.Memory why not_write not_memory = absurd (not_memory refl)
  why_quiet (Some it) refusal.TooLong why not_write not_memory = why.2

  -- where the words call a command
  module _ (it : Command) where
    pub why_front : (r : Refusal) → IsWhy it source sink r → status_of r ≡ 7 → PrintsFront it source.bytes_before source.bytes_after sink.bytes_before sink.bytes_after
    why_front refusal.Write why is = why.2
    why_front _ why is = absurd (omega arith)

    pub why_memory : (r : Refusal) → IsWhy it source sink r → status_of r ≡ 9 → IsUntouched sink ⊎ PrintsFront it source.bytes_before source.bytes_after sink.bytes_before sink.bytes_after
    why_memory refusal.Memory why is = why.2
    why_memory _ why is = absurd (omega arith)

    pub why_refused : (r : Refusal) (held now : Option (List ℕ)) (before after : ℕ) → IsWhy it source sink r → IsTold (line_of r) held now before after → is_of_input (status_of r) ≡ true
        → IsRefused it (status_of r) source.bytes_before source.bytes_after held now before after
    why_refused (refusal.Document line) held now before after why told is = record { bytes = why.bytes; gave = why.gave; line = line.items; refused = why.refused; told = told }
    why_refused (refusal.Net line) held now before after why told is = record { bytes = why.bytes; gave = why.gave; line = line.items; refused = why.refused; told = told }
    why_refused (refusal.Tape line) held now before after why told is = record { bytes = why.bytes; gave = why.gave; line = line.items; refused = why.refused; told = told }
    why_refused (refusal.Proof line) held now before after why told is = record { bytes = why.bytes; gave = why.gave; line = line.items; refused = why.refused; told = told }
    why_refused (refusal.Overflow line) held now before after why told is = record { bytes = why.bytes; gave = why.gave; line = line.items; refused = why.refused; told = told }
    why_refused _ held now before after why told is = cc

pub why_called : {S K : Type 0} (source : Change S) (sink : Change K) (called : Option Command) (it : Command) (r : Refusal) → called ≡ Some it → IsWhyCalled called source sink r → IsWhy it source sink r
why_called source sink called it r same why = subst (λ (x : Option Command). IsWhyCalled x source sink r) same why

pub why_known : (r : Refusal) → is_status (status_of r) ≡ true
why_known refusal.Words = refl
why_known _ = refl

pub why_told : (r : Refusal) (held now : Option (List ℕ)) (before after : ℕ) → is_of_input (status_of r) ≡ false → IsTold (line_of r) held now before after → Tells (status_of r) held now before after
why_told refusal.Words held now before after other told = record { line = line_of refusal.Words; is_line = plain.words; told = told }
why_told refusal.Read held now before after other told = record { line = line_of refusal.Read; is_line = plain.read; told = told }
why_told refusal.Write held now before after other told = record { line = line_of refusal.Write; is_line = plain.write; told = told }
why_told refusal.Memory held now before after other told = record { line = line_of refusal.Memory; is_line = plain.memory; told = told }
why_told refusal.TooLong held now before after other told = record { line = line_of refusal.TooLong; is_line = plain.too_long; told = told }
why_told _ held now before after other told = cc

-- ---- where there is an output

-- a source has one text to its end
same_bytes : (left rest : Option (List ℕ)) (bytes read : List ℕ) → left ≡ Some bytes → ReadsWhole left rest read → read ≡ bytes
same_bytes None rest bytes read is whole = cc
same_bytes (Some xs) None bytes read is whole = absurd whole.taken
same_bytes (Some xs) (Some ys) bytes read is whole = sym (append-nil read) ∙ ap (λ (y : List ℕ). read ++ y) (sym whole.ended) ∙ sym whole.taken ∙ cc

not_longer : (limit : ℕ) (left rest : Option (List ℕ)) (bytes : List ℕ) → left ≡ Some bytes → length bytes ≤ limit → TakesMoreThan limit left rest → ⊥
not_longer limit None rest bytes is within more = cc
not_longer limit (Some xs) None bytes is within more = absurd more.2
not_longer limit (Some xs) (Some ys) bytes is within more =
    let same : xs ≡ bytes = cc in
    omega (arith, within, more.1, ap length same, ap length more.2, length-append more.0 ys)

-- only a search may differ, and only where it leaves 128 bits
differs_not : (it : Command) (status : ℕ) → (status == 8) ≡ false → may_differ it status ≡ false
differs_not command.Check status other = refl
differs_not command.Run status other = refl
differs_not command.Inv status other = refl
differs_not command.Verify status other = refl
differs_not (command.Prove budget) status other = other
differs_not (command.Simulate it) status other = refl

-- want of memory, or a search that leaves 128 bits
abbrev pub EndsOtherwise : Command → ℕ → Type 0
EndsOtherwise it status = (status ≡ 9) ⊎ ((may_differ it 8 ≡ true) × (status ≡ 8))

pub expected_otherwise : (it : Command) (turned : Outcome) (status : ℕ) → EndsOtherwise it status → IsExpected it turned status
expected_otherwise (command.Prove budget) turned status (inl want) = inr (inr want)
expected_otherwise (command.Prove budget) turned status (inr leaves) = inr (inl leaves.1)
expected_otherwise command.Check turned status (inl want) = inr want
expected_otherwise command.Check turned status (inr leaves) = absurd (let no = leaves.0 in cc)
expected_otherwise command.Run turned status (inl want) = inr want
expected_otherwise command.Run turned status (inr leaves) = absurd (let no = leaves.0 in cc)
expected_otherwise command.Inv turned status (inl want) = inr want
expected_otherwise command.Inv turned status (inr leaves) = absurd (let no = leaves.0 in cc)
expected_otherwise command.Verify turned status (inl want) = inr want
expected_otherwise command.Verify turned status (inr leaves) = absurd (let no = leaves.0 in cc)
expected_otherwise (command.Simulate it) turned status (inl want) = inr want
expected_otherwise (command.Simulate it) turned status (inr leaves) = absurd (let no = leaves.0 in cc)

module _ {S K : Type 0} (it : Command) (source : Change S) (sink : Change K) (none : NoLoop) (exclusive : ExclusiveEnds) (bytes text : List ℕ) (turned : Outcome)
    (is : source.bytes_before ≡ Some bytes) (output : IsOutput bytes it turned text) where
  not_refused : (status : ℕ) (line : List ℕ) → may_differ it status ≡ false → IsInputRefused it source sink status line → ⊥
  not_refused status line same why =
      excludes none exclusive same why.refused (subst (λ (x : List ℕ). IsOutput x it turned text) (sym (same_bytes source.bytes_before source.bytes_after bytes why.bytes is why.gave.whole)) output)

  pub why_complete : length bytes ≤ most_bytes → (Rose source.faults_before source.faults_after → ⊥) → (Rose sink.faults_before sink.faults_after → ⊥) → (r : Refusal) → IsWhy it source sink r
      → EndsOtherwise it (status_of r)
  why_complete within no_read no_write refusal.Words why = absurd why
  why_complete within no_read no_write (refusal.Document line) why = absurd (not_refused 3 line.items (differs_not it 3 refl) why)
  why_complete within no_read no_write (refusal.Net line) why = absurd (not_refused 4 line.items (differs_not it 4 refl) why)
  why_complete within no_read no_write (refusal.Tape line) why = absurd (not_refused 5 line.items (differs_not it 5 refl) why)
  why_complete within no_read no_write (refusal.Proof line) why = absurd (not_refused 5 line.items (differs_not it 5 refl) why)
  why_complete within no_read no_write (refusal.Overflow line) why =
      elim (cases_Bool (may_differ it 8)) [ inl may ↦ inr (may, refl) | inr same ↦ absurd (not_refused 8 line.items same why) ]
  why_complete within no_read no_write refusal.Read why = absurd (no_read why.0)
  why_complete within no_read no_write refusal.Write why = absurd (no_write why.0)
  why_complete within no_read no_write refusal.Memory why = inl refl
  why_complete within no_read no_write refusal.TooLong why = absurd (not_longer most_bytes source.bytes_before source.bytes_after bytes is within why.0)

-- ---- what an output says of each clause

-- a simulation turns out in one way
simulated_turn : {bytes text : List ℕ} {it : Simulation} {turned : Outcome} → IsOutput bytes (command.Simulate it) turned text → turned ≡ outcome.Yes
simulated_turn (of_sim it text none is) = refl
simulated_turn (of_watched it doc design tape text some read is taped watched) = refl

-- and so does every command but `prove`
one_turn : OneOutput → (it : Command) → has_one_refusal it ≡ true → {bytes text other : List ℕ} {said turned : Outcome} → IsOutput bytes it said text → IsOutput bytes it turned other → said ≡ turned
one_turn one command.Check determined p q = (one _ command.Check _ _ _ _ refl p q).0
one_turn one command.Run determined p q = (one _ command.Run _ _ _ _ refl p q).0
one_turn one command.Inv determined p q = (one _ command.Inv _ _ _ _ refl p q).0
one_turn one command.Verify determined p q = (one _ command.Verify _ _ _ _ refl p q).0
one_turn one (command.Prove budget) determined p q = absurd cc
one_turn one (command.Simulate it) determined p q = simulated_turn p ∙ sym (simulated_turn q)

same_outcome : (a b : Outcome) → outcome_status a ≡ outcome_status b → a ≡ b
same_outcome outcome.Yes outcome.Yes same = refl
same_outcome outcome.No outcome.No same = refl
same_outcome _ _ same = absurd (omega arith)

module _ {S K : Type 0} (source : Change S) (sink : Change K) (called : Option Command) (it : Command) (said turned : Outcome) where
  pub done_written : IsSomeAnd called (λ (it : Command). Prints it said source.bytes_before source.bytes_after sink.bytes_before sink.bytes_after) → called ≡ Some it → outcome_status said ≡ outcome_status turned
      → Prints it turned source.bytes_before source.bytes_after sink.bytes_before sink.bytes_after
  done_written is same status =
      subst (λ (o : Outcome). Prints it o source.bytes_before source.bytes_after sink.bytes_before sink.bytes_after) (same_outcome said turned status)
      (called_is (λ (it : Command). Prints it said source.bytes_before source.bytes_after sink.bytes_before sink.bytes_after) called it is same)

  pub done_complete : OneOutput → (bytes text : List ℕ) → has_one_refusal it ≡ true → IsSomeAnd called (λ (it : Command). Prints it said source.bytes_before source.bytes_after sink.bytes_before sink.bytes_after) → called ≡ Some it
      → source.bytes_before ≡ Some bytes → IsOutput bytes it turned text → outcome_status said ≡ outcome_status turned
  done_complete one bytes text determined is same read output =
      let prints = called_is (λ (it : Command). Prints it said source.bytes_before source.bytes_after sink.bytes_before sink.bytes_after) called it is same in
      let bytes_same = same_bytes source.bytes_before source.bytes_after bytes prints.bytes read prints.gave.whole in
      ap outcome_status (one_turn one it determined (subst (λ (x : List ℕ). IsOutput x it said prints.printed.0) bytes_same prints.printed.1) output)

-- no refusal has the status of an output
pub refused_not_done : (r : Refusal) → is_done (status_of r) ≡ false
refused_not_done refusal.Words = refl
refused_not_done _ = refl

pub done_outcome : (o : Outcome) → is_done (outcome_status o) ≡ true
done_outcome outcome.Yes = refl
done_outcome outcome.No = refl

-- the output of a command that has one is as expected, and so is any of a search
pub expected_done : (it : Command) (turned said : Outcome) → (has_one_refusal it ≡ true → outcome_status said ≡ outcome_status turned) → IsExpected it turned (outcome_status said)
expected_done (command.Prove budget) turned said same = inl (done_outcome said)
expected_done command.Check turned said same = inl (same refl)
expected_done command.Run turned said same = inl (same refl)
expected_done command.Inv turned said same = inl (same refl)
expected_done command.Verify turned said same = inl (same refl)
expected_done (command.Simulate it) turned said same = inl (same refl)

pub why_not_done : (r : Refusal) (o : Outcome) → status_of r ≡ outcome_status o → ⊥
why_not_done r o same = let no = refused_not_done r in let yes = ap is_done same ∙ done_outcome o in cc
