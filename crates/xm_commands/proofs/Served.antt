-- What the top call says, from how the call that the words make ended, and from the status that was concluded.
use Rattle.std.proofs.Common.{◌≡◌, ◌⊎◌, ℕ, true, false, Option, Some, Result, Ok, Err, refl, sym, ap, ◌∙◌, subst}
use Rattle.xm_commands.proofs.Calls.{call_quiet, call_read, call_read_unharmed, call_read_within, call_too_long, call_unknown, call_unread}
use Rattle.xm_commands.proofs.Calls.{call_unwritten, call_words, call_write, call_write_unharmed, done_called, done_read_unharmed, done_unread}
use Rattle.xm_commands.proofs.Calls.{done_write_unharmed, drawn_as, drawn_ends, drawn_front, drawn_memory, obeyed}
use Rattle.xm_commands.proofs.Whys.{done_complete, done_outcome, done_written, expected_done, expected_otherwise, refused_not_done, why_complete, why_front, why_known, why_memory}
use Rattle.xm_commands.proofs.Whys.{why_not_done, why_refused, why_told}
use Rattle.xm_commands.specs.Change.{Change}
use Rattle.xm_commands.specs.Drawn.{ends_drawn}
use Rattle.xm_commands.specs.Inner.CallEnded.{HasCalled, HasConcluded}
use Rattle.xm_commands.specs.Inner.WhyEnded.{IsUnharmed, IsUntouched}
use Rattle.xm_commands.specs.OneAnswer.{OneOutput, has_one_refusal}
use Rattle.xm_commands.specs.Served.{IsServed}
use Rattle.xm_commands.specs.Status.{IsExpected, IsRefused, IsTold, Tells, is_done, is_of_input, is_status, line_of, outcome_status, status_of}
use Rattle.xm_commands.specs.declared.call.Call.{Call}
use Rattle.xm_commands.specs.declared.command.Outcome.{Outcome}
use Rattle.xm_commands.specs.declared.command.Outcome.TheVariants as outcome
use Rattle.xm_commands.specs.declared.refusal.Refusal.{Refusal}
use Rattle.xm_elim.specs.Elimination.{ExclusiveEnds}
use Rattle.xm_order.specs.Loop.{NoLoop}

-- an output has no other status
not_done : (o : Outcome) (status n : ℕ) → status ≡ outcome_status o → is_done n ≡ false → status ≡ n → ⊥
not_done o status n is other same =
    let yes = done_outcome o in
    let both : is_done (outcome_status o) ≡ is_done n = ap is_done (sym is ∙ same) in
    cc

done_known : (o : Outcome) → is_status (outcome_status o) ≡ true
done_known outcome.Yes = refl
done_known outcome.No = refl

done_no_input : (o : Outcome) → is_of_input (outcome_status o) ≡ false
done_no_input outcome.Yes = refl
done_no_input outcome.No = refl

module _ {S K E : Type 0} (called : Option Call) (source : Change S) (sink : Change K) (err : Change E) (status : ℕ) (no_loop : NoLoop) (exclusive : ExclusiveEnds) (one : OneOutput) where
  served_done : (o : Outcome) → HasCalled called source sink (Ok o) → status ≡ outcome_status o → IsUntouched err → IsServed called source sink err status
  served_done o ended is quiet =
      let done : is_done status ≡ true = ap is_done is ∙ done_outcome o in record {
        known = ap is_status is ∙ done_known o;
        words = λ e. absurd (not_done o status 2 is refl e);
        unknown = λ no. absurd (done_called source sink called o ended no);
        unread = λ no. done_unread source sink called o ended no;
        unwritten = λ no. absurd (done_called source sink called o ended no);
        refused = λ it same input. absurd (let no = ap is_of_input is ∙ done_no_input o in cc);
        read = λ e. absurd (not_done o status 6 is refl e);
        read_within = λ e. absurd (not_done o status 6 is refl e);
        read_unharmed = λ other. done_read_unharmed source sink called o ended;
        too_long = λ e. absurd (not_done o status 10 is refl e);
        written = λ it turned same e. done_written source sink (Some it) it o turned (obeyed source sink called it (Ok o) same ended).0 refl (sym is ∙ e);
        write = λ e. absurd (not_done o status 7 is refl e);
        write_unharmed = λ other. done_write_unharmed source sink called o ended;
        front = λ it same e. absurd (not_done o status 7 is refl e);
        memory = λ it same e. absurd (not_done o status 9 is refl e);
        quiet = λ some not_write not_memory. absurd cc;
        complete = λ it turned bytes text same read within output no_read no_write.
            let whole = obeyed source sink called it (Ok o) same ended in
            let alike = λ (determined : has_one_refusal it ≡ true). done_complete source sink (Some it) it o turned one bytes text determined whole.0 refl read output in
            subst (IsExpected it turned) (sym is) (expected_done it turned o alike);
        drawn = λ it same none e. (drawn_as source sink called it (Ok o) same none ended).1;
        drawn_front = λ it same none e. absurd (not_done o status 7 is refl e);
        drawn_memory = λ it same none e. absurd (not_done o status 9 is refl e);
        drawn_status = λ it same none. ap ends_drawn (is ∙ ap outcome_status (drawn_as source sink called it (Ok o) same none ended).0);
        silent = λ e. quiet;
        told = λ some other. absurd cc;
      }

  served_refused : (r : Refusal) → (IsUntouched sink → IsUnharmed sink) → HasCalled called source sink (Err r) → status ≡ status_of r → IsTold (line_of r) err.bytes_before err.bytes_after err.faults_before err.faults_after
      → IsServed called source sink err status
  served_refused r harmless ended is told = record {
    known = ap is_status is ∙ why_known r;
    words = λ e. call_words source sink called r ended (sym is ∙ e);
    unknown = λ no. subst (λ (n : ℕ). (n ≡ 2) ⊎ (n ≡ 9)) (sym is) (call_unknown source sink called r ended no);
    unread = λ no. call_unread source sink called r ended no;
    unwritten = λ no. call_unwritten source sink called r ended no;
    refused = λ it same input.
        subst (λ (n : ℕ). IsRefused it n source.bytes_before source.bytes_after err.bytes_before err.bytes_after err.faults_before err.faults_after) (sym is)
        (why_refused source sink it r err.bytes_before err.bytes_after err.faults_before err.faults_after (obeyed source sink called it (Err r) same ended) told (ap is_of_input (sym is) ∙ input));
    read = λ e. call_read source sink called r ended (sym is ∙ e);
    read_within = λ e. call_read_within source sink called r ended (sym is ∙ e);
    read_unharmed = λ other. call_read_unharmed source sink called r ended (λ e. other (is ∙ e));
    too_long = λ e. call_too_long source sink called r ended (sym is ∙ e);
    written = λ it turned same e. absurd (why_not_done r turned (sym is ∙ e));
    write = λ e. call_write source sink called r ended (sym is ∙ e);
    write_unharmed = λ other. call_write_unharmed source sink called r ended harmless (λ e. other (is ∙ e));
    front = λ it same e. why_front source sink it r (obeyed source sink called it (Err r) same ended) (sym is ∙ e);
    memory = λ it same e. why_memory source sink it r (obeyed source sink called it (Err r) same ended) (sym is ∙ e);
    quiet = λ some not_write not_memory. call_quiet source sink called r ended (λ e. not_write (is ∙ e)) (λ e. not_memory (is ∙ e));
    complete = λ it turned bytes text same read within output no_read no_write.
        let why = obeyed source sink called it (Err r) same ended in
        let ends = why_complete it source sink no_loop exclusive bytes text turned read output within no_read no_write r why in
        subst (IsExpected it turned) (sym is) (expected_otherwise it turned _ ends);
    drawn = λ it same none e. absurd (why_not_done r outcome.Yes (sym is ∙ e));
    drawn_front = λ it same none e. drawn_front it sink r (drawn_as source sink called it (Err r) same none ended) (sym is ∙ e);
    drawn_memory = λ it same none e. drawn_memory it sink r (drawn_as source sink called it (Err r) same none ended) (sym is ∙ e);
    drawn_status = λ it same none. ap ends_drawn is ∙ drawn_ends it sink r (drawn_as source sink called it (Err r) same none ended);
    silent = λ e. absurd (let no = refused_not_done r in let same = ap is_done is in cc);
    told = λ some other.
        subst (λ (n : ℕ). Tells n err.bytes_before err.bytes_after err.faults_before err.faults_after) (sym is)
        (why_told r err.bytes_before err.bytes_after err.faults_before err.faults_after (ap is_of_input (sym is) ∙ other) told);
  }

  pub served : (ended : Result Outcome Refusal) → (IsUntouched sink → IsUnharmed sink) → HasCalled called source sink ended → HasConcluded ended err status → IsServed called source sink err status
  served (Ok o) harmless ended concluded = served_done o ended concluded.0 concluded.1
  served (Err r) harmless ended concluded = served_refused r harmless ended concluded.0 concluded.1
