-- What each clause of the top call says of the calls that words make.
use Rattle.std.proofs.Common.{◌≡◌, ◌≢◌, ◌≤◌, ◌<◌, ◌^◌, ◌⊎◌, ℕ, true, false, List, [], ◌∷◌, Option, Some, None, Result, Ok, Err, refl, sym, ap, subst, arith}
use Rattle.std.specs.Prelude.{IfErr, IfOk, OnErr, OnOk}
use Rattle.std.specs.Io.KnownBytes.{Appends}
use Rattle.xm_commands.proofs.Whys.{no_memory, why_quiet, why_read, why_read_unharmed, why_read_within, why_too_long, why_unknown, why_unread}
use Rattle.xm_commands.proofs.Whys.{why_unwritten, why_words, why_write, why_write_unharmed}
use Rattle.xm_commands.specs.Calls.{demonstration_of, demonstration_options, generate_options, generate_with, reads_document}
use Rattle.xm_commands.specs.Drawn.{IsDrawn, PrintsDrawnFront, ends_drawn, of_generate}
use Rattle.xm_commands.specs.Inner.CallEnded.{HasCalled, HasDrawn, IsDemonstrable, IsWithin}
use Rattle.xm_commands.specs.Change.{Change}
use Rattle.xm_commands.specs.Inner.WhyEnded.{HasEnded, IsUnharmed, IsUntouched}
use Rattle.xm_commands.specs.Status.{most_bytes, status_of}
use Rattle.xm_commands.specs.declared.call.Call.{Call}
use Rattle.xm_commands.specs.declared.call.Call.TheVariants as call
use Rattle.xm_commands.specs.declared.call.Demonstration.{Demonstration}
use Rattle.xm_commands.specs.declared.command.Command.{Command}
use Rattle.xm_commands.specs.declared.command.Outcome.{Outcome}
use Rattle.xm_commands.specs.declared.command.Outcome.TheVariants as outcome
use Rattle.xm_commands.specs.declared.refusal.Refusal.{Refusal}
use Rattle.xm_commands.specs.declared.refusal.Refusal.TheVariants as refusal
use Rattle.xm_generate.specs.Generated.{generated}
use Rattle.xm_io.specs.Bytes.{AppendsFront, TakesAtMost, TakesMoreThan}
use Rattle.xm_io.specs.Faults.{HasCause, Rose}
use Rattle.xm_netlist.specs.Reading.{document_in}
use Rattle.xm_options.specs.Grammar.{AreWithin}
use Rattle.xm_options.specs.declared.option.OptionName.TheVariants as option
use Rattle.xm_writer.specs.Writing.{text_of}

-- values that lie in the ranges of the options make a call with such a size
pub generated_within : (values : List (Option ℕ)) (it : Call) → AreWithin generate_options values → generate_with values ≡ Some it → IsWithin it
generated_within (Some size ∷ Some seed ∷ []) it within is =
    let same : call.Generate size seed ≡ it = cc in
    subst (λ (x : Call). IsWithin x) same (within 0 (record { name = option.Size; low = 2; high = 600; wanted = true }) size refl refl)
generated_within _ it within is = cc

module _ (size seed parts workers : ℕ) (within : AreWithin demonstration_options (Some size ∷ Some seed ∷ Some parts ∷ Some workers ∷ [])) where
  size_within : (2 ≤ size) × (size ≤ 600)
  size_within = within 0 (record { name = option.Size; low = 2; high = 600; wanted = true }) size refl refl

  seed_within : seed < 2 ^ 64
  seed_within = let high = (within 1 (record { name = option.Seed; low = 0; high = 18446744073709551615; wanted = true }) seed refl refl).1 in omega (arith, high)

  parts_within : (1 ≤ parts) × (parts ≤ 64)
  parts_within = within 2 (record { name = option.Parts; low = 1; high = 64; wanted = true }) parts refl refl

  workers_within : (1 ≤ workers) × (workers ≤ 64)
  workers_within = within 3 (record { name = option.Workers; low = 1; high = 64; wanted = true }) workers refl refl

-- and those of a demonstration one that can be made
pub demonstrated_within : (values : List (Option ℕ)) (it : Demonstration) → AreWithin demonstration_options values → demonstration_of values ≡ Some it → IsDemonstrable it
demonstrated_within (Some size ∷ Some seed ∷ Some parts ∷ Some workers ∷ []) it within is =
    let asked : Demonstration = record { size = size; seed = seed; parts = parts; workers = workers } in
    let same : asked ≡ it = cc in
    let s = size_within size seed parts workers within in
    let p = parts_within size seed parts workers within in
    subst IsDemonstrable same (s.0, s.1, p.0, p.1, (workers_within size seed parts workers within).1, seed_within size seed parts workers within)
demonstrated_within _ it within is = cc

-- ---- what a refusal says of a call that reads no document

module _ {K : Type 0} (it : Call) (sink : Change K) where
  pub drawn_ends : (r : Refusal) → HasDrawn it sink (Err r) → ends_drawn (status_of r) ≡ true
  drawn_ends refusal.Write why = refl
  drawn_ends refusal.Memory why = refl
  drawn_ends _ why = absurd why

  -- it ends with no other status
  not_drawn : (r : Refusal) (n : ℕ) → HasDrawn it sink (Err r) → ends_drawn n ≡ false → status_of r ≡ n → ⊥
  not_drawn r n why other is =
      let yes = drawn_ends r why in
      let same = ap ends_drawn is in
      cc

  drawn_write : (r : Refusal) → HasDrawn it sink (Err r) → status_of r ≡ 7 → Rose sink.faults_before sink.faults_after
  drawn_write refusal.Write why is = why.0
  drawn_write _ why is = absurd (omega arith)

  drawn_unharmed : (r : Refusal) → HasDrawn it sink (Err r) → status_of r ≢ 7 → IsUnharmed sink
  drawn_unharmed refusal.Write why other = absurd (other refl)
  drawn_unharmed refusal.Memory why other = why.1
  drawn_unharmed _ why other = absurd why

  drawn_quiet : (r : Refusal) → HasDrawn it sink (Err r) → status_of r ≢ 7 → status_of r ≢ 9 → IsUntouched sink
  drawn_quiet refusal.Write why not_write not_memory = absurd (not_write refl)
  drawn_quiet refusal.Memory why not_write not_memory = why.0
  drawn_quiet _ why not_write not_memory = absurd why

  pub drawn_front : (r : Refusal) → HasDrawn it sink (Err r) → status_of r ≡ 7 → PrintsDrawnFront it sink.bytes_before sink.bytes_after
  drawn_front refusal.Write why is = why.1
  drawn_front _ why is = absurd (omega arith)

  pub drawn_memory : (r : Refusal) → HasDrawn it sink (Err r) → status_of r ≡ 9 → IsUntouched sink
  drawn_memory refusal.Memory why is = why.0
  drawn_memory _ why is = absurd (omega arith)

-- ---- what a refusal says of a call

module _ {S K : Type 0} (source : Change S) (sink : Change K) where
  -- no memory for the words
  pub call_no_memory : (called : Option Call) → IsUntouched source → IsUntouched sink → IsUnharmed source → IsUnharmed sink → HasCalled called source sink (Err refusal.Memory)
  call_no_memory None same_source same_sink unharmed_source unharmed_sink = no_memory None source sink same_source same_sink unharmed_source unharmed_sink
  call_no_memory (Some (call.Obey it)) same_source same_sink unharmed_source unharmed_sink = no_memory (Some it) source sink same_source same_sink unharmed_source unharmed_sink
  call_no_memory (Some (call.Generate size seed)) same_source same_sink unharmed_source unharmed_sink = ((same_sink, unharmed_sink), same_source, unharmed_source)
  call_no_memory (Some (call.Demonstrate it)) same_source same_sink unharmed_source unharmed_sink = ((same_sink, unharmed_sink), same_source, unharmed_source)

  pub call_words : (called : Option Call) (r : Refusal) → HasCalled called source sink (Err r) → status_of r ≡ 2 → called ≡ None
  call_words None r why is = refl
  call_words (Some (call.Obey it)) r why is = let none = why_words source sink (Some it) r why is in cc
  call_words (Some (call.Generate size seed)) r why is = absurd (not_drawn (call.Generate size seed) sink r 2 why.0 refl is)
  call_words (Some (call.Demonstrate it)) r why is = absurd (not_drawn (call.Demonstrate it) sink r 2 why.0 refl is)

  pub call_unknown : (called : Option Call) (r : Refusal) → HasCalled called source sink (Err r) → called ≡ None → (status_of r ≡ 2) ⊎ (status_of r ≡ 9)
  call_unknown None r why none = why_unknown source sink None r why refl
  call_unknown (Some it) r why none = cc

  pub call_unread : (called : Option Call) (r : Refusal) → HasCalled called source sink (Err r) → reads_document called ≡ false → IsUntouched source
  call_unread None r why none = why_unread source sink None r why refl
  call_unread (Some (call.Obey it)) r why none = cc
  call_unread (Some (call.Generate size seed)) r why none = why.1
  call_unread (Some (call.Demonstrate it)) r why none = why.1

  pub call_unwritten : (called : Option Call) (r : Refusal) → HasCalled called source sink (Err r) → called ≡ None → IsUntouched sink
  call_unwritten None r why none = why_unwritten source sink None r why refl
  call_unwritten (Some it) r why none = cc

  pub call_read : (called : Option Call) (r : Refusal) → HasCalled called source sink (Err r) → status_of r ≡ 6 → Rose source.faults_before source.faults_after
  call_read None r why is = why_read source sink None r why is
  call_read (Some (call.Obey it)) r why is = why_read source sink (Some it) r why is
  call_read (Some (call.Generate size seed)) r why is = absurd (not_drawn (call.Generate size seed) sink r 6 why.0 refl is)
  call_read (Some (call.Demonstrate it)) r why is = absurd (not_drawn (call.Demonstrate it) sink r 6 why.0 refl is)

  pub call_read_within : (called : Option Call) (r : Refusal) → HasCalled called source sink (Err r) → status_of r ≡ 6 → TakesAtMost most_bytes source.bytes_before source.bytes_after
  call_read_within None r why is = why_read_within source sink None r why is
  call_read_within (Some (call.Obey it)) r why is = why_read_within source sink (Some it) r why is
  call_read_within (Some (call.Generate size seed)) r why is = absurd (not_drawn (call.Generate size seed) sink r 6 why.0 refl is)
  call_read_within (Some (call.Demonstrate it)) r why is = absurd (not_drawn (call.Demonstrate it) sink r 6 why.0 refl is)

  pub call_read_unharmed : (called : Option Call) (r : Refusal) → HasCalled called source sink (Err r) → status_of r ≢ 6 → IsUnharmed source
  call_read_unharmed None r why other = why_read_unharmed source sink None r why other
  call_read_unharmed (Some (call.Obey it)) r why other = why_read_unharmed source sink (Some it) r why other
  call_read_unharmed (Some (call.Generate size seed)) r why other = why.2
  call_read_unharmed (Some (call.Demonstrate it)) r why other = why.2

  pub call_too_long : (called : Option Call) (r : Refusal) → HasCalled called source sink (Err r) → status_of r ≡ 10 → TakesMoreThan most_bytes source.bytes_before source.bytes_after
  call_too_long None r why is = why_too_long source sink None r why is
  call_too_long (Some (call.Obey it)) r why is = why_too_long source sink (Some it) r why is
  call_too_long (Some (call.Generate size seed)) r why is = absurd (not_drawn (call.Generate size seed) sink r 10 why.0 refl is)
  call_too_long (Some (call.Demonstrate it)) r why is = absurd (not_drawn (call.Demonstrate it) sink r 10 why.0 refl is)

  pub call_write : (called : Option Call) (r : Refusal) → HasCalled called source sink (Err r) → status_of r ≡ 7 → Rose sink.faults_before sink.faults_after
  call_write None r why is = why_write source sink None r why is
  call_write (Some (call.Obey it)) r why is = why_write source sink (Some it) r why is
  call_write (Some (call.Generate size seed)) r why is = drawn_write (call.Generate size seed) sink r why.0 is
  call_write (Some (call.Demonstrate it)) r why is = drawn_write (call.Demonstrate it) sink r why.0 is

  pub call_write_unharmed : (called : Option Call) (r : Refusal) → HasCalled called source sink (Err r) → (IsUntouched sink → IsUnharmed sink) → status_of r ≢ 7 → IsUnharmed sink
  call_write_unharmed None r why harmless other = why_write_unharmed source sink None r why harmless other
  call_write_unharmed (Some (call.Obey it)) r why harmless other = why_write_unharmed source sink (Some it) r why harmless other
  call_write_unharmed (Some (call.Generate size seed)) r why harmless other = drawn_unharmed (call.Generate size seed) sink r why.0 other
  call_write_unharmed (Some (call.Demonstrate it)) r why harmless other = drawn_unharmed (call.Demonstrate it) sink r why.0 other

  pub call_quiet : (called : Option Call) (r : Refusal) → HasCalled called source sink (Err r) → status_of r ≢ 7 → status_of r ≢ 9 → IsUntouched sink
  call_quiet None r why not_write not_memory = why_quiet source sink None r why not_write not_memory
  call_quiet (Some (call.Obey it)) r why not_write not_memory = why_quiet source sink (Some it) r why not_write not_memory
  call_quiet (Some (call.Generate size seed)) r why not_write not_memory = drawn_quiet (call.Generate size seed) sink r why.0 not_write not_memory
  call_quiet (Some (call.Demonstrate it)) r why not_write not_memory = drawn_quiet (call.Demonstrate it) sink r why.0 not_write not_memory

  -- ---- what an output says of a call

  pub done_called : (called : Option Call) (o : Outcome) → HasCalled called source sink (Ok o) → called ≡ None → ⊥
  done_called None o is none = is.0
  done_called (Some it) o is none = cc

  pub done_unread : (called : Option Call) (o : Outcome) → HasCalled called source sink (Ok o) → reads_document called ≡ false → IsUntouched source
  done_unread None o is none = absurd is.0
  done_unread (Some (call.Obey it)) o is none = cc
  done_unread (Some (call.Generate size seed)) o is none = is.1
  done_unread (Some (call.Demonstrate it)) o is none = is.1

  pub done_read_unharmed : (called : Option Call) (o : Outcome) → HasCalled called source sink (Ok o) → IsUnharmed source
  done_read_unharmed None o is = absurd is.0
  done_read_unharmed (Some (call.Obey it)) o is = is.1
  done_read_unharmed (Some (call.Generate size seed)) o is = is.2
  done_read_unharmed (Some (call.Demonstrate it)) o is = is.2

  pub done_write_unharmed : (called : Option Call) (o : Outcome) → HasCalled called source sink (Ok o) → IsUnharmed sink
  done_write_unharmed None o is = absurd is.0
  done_write_unharmed (Some (call.Obey it)) o is = is.2
  done_write_unharmed (Some (call.Generate size seed)) o is = is.0.2
  done_write_unharmed (Some (call.Demonstrate it)) o is = is.0.2

  -- ---- for one call

  pub obeyed : (called : Option Call) (it : Command) (ended : Result Outcome Refusal) → called ≡ Some (call.Obey it) → HasCalled called source sink ended → HasEnded (Some it) source sink ended
  obeyed called it ended same is = subst (λ (x : Option Call). HasCalled x source sink ended) same is

  pub drawn_as : (called : Option Call) (it : Call) (ended : Result Outcome Refusal) → called ≡ Some it → reads_document called ≡ false → HasCalled called source sink ended → HasDrawn it sink ended
  drawn_as called it ended same none is =
      drawn_of it (subst (λ (x : Option Call). reads_document x ≡ false) same none) (subst (λ (x : Option Call). HasCalled x source sink ended) same is)
    where
      drawn_of : (it : Call) → reads_document (Some it) ≡ false → HasCalled (Some it) source sink ended → HasDrawn it sink ended
      drawn_of (call.Obey command) none is = cc
      drawn_of (call.Generate size seed) none is = is.0
      drawn_of (call.Demonstrate it) none is = is.0

-- ---- what was written of its text

-- from the answer of the call that wrote it
pub drawn_written : {K : Type 0} (r : Result Outcome Refusal) (it : Call) (text : List ℕ) (sink : Change K) → IsDrawn it text
    → IfOk r (λ o. o ≡ outcome.Yes) → OnOk r (Appends sink.bytes_before sink.bytes_after text) → OnErr r (AppendsFront sink.bytes_before sink.bytes_after text)
    → HasCause sink.faults_before sink.faults_after r → IfErr r (λ e. e ≡ refusal.Write) → HasDrawn it sink r
drawn_written (Ok o) it text sink is same whole front cause only = (same, (text, is, whole), cause.kept)
drawn_written (Err e) it text sink is same whole front cause only =
    subst (λ (r : Refusal). HasDrawn it sink (Err r)) (sym only) (cause.failed, (text, is, front))

pub is_generated : (size seed : ℕ) (text : List ℕ) → text ≡ text_of (generated size seed) → document_in text ≡ Ok (generated size seed) → IsDrawn (call.Generate size seed) text
is_generated size seed text is again =
    subst (λ (text : List ℕ). IsDrawn (call.Generate size seed) text) (sym is) (of_generate size seed (subst (λ (text : List ℕ). document_in text ≡ Ok (generated size seed)) is again))
