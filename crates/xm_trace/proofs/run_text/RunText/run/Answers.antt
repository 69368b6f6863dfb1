use Rattle.std.proofs.Common.{subst, ◌≡◌, ◌<◌, ◌+◌, ◌-◌, ◌∙◌, ◌++◌, ◌^◌, ℕ, List, ap, append_assoc, append-nil, arith, refl, sym}
use Rattle.xm_design.specs.Designed.{Designed}
use Rattle.xm_step.specs.InStep.{IsInStep}
use Rattle.xm_tape.specs.Taped.{Taped, chosen, cycles_of, rows_of}
use Rattle.xm_trace.proofs.Cycles.{rounds_join}
use Rattle.xm_trace.proofs.RoundAdded.{few_had}
use Rattle.xm_trace.proofs.Still.{still_in_run}
use Rattle.xm_trace.specs.Rounds.{IsUnderway}
use Rattle.xm_trace.specs.Runs.{IsRunOf}
use Rattle.xm_trace.specs.Text.{round_lines}
use Rattle.xm_trace.proofs.run_text.RunText.run.Goals as goal

pub loop-texts-init : goal.loop-texts-init
loop-texts-init c =
    let n = c.args.self.now.cycles in
    record {
      here = c.requires.here;
      tape = refl;
      row = c.requires.row;
      later = omega arith;
      within = c.requires.order;
      channels = refl;
      colours = refl;
      in_step = subst (λ (design : Designed). IsInStep design.net c.args.running.now.slots.items c.in_ok-frame.frame) c.design-design.ensures.value (c.in_ok-frame.ensures c.args.running.now.slots.items);
      rooms = λ p m there. refl;
      room = refl;
      lines = λ names s φ are run.
          let none : 0 ≡ n - n = omega arith in
          sym (append-nil c.args.lines.now.items) ∙ ap (λ (i : ℕ). c.args.lines.now.items ++ round_lines names φ n i) none;
    }

pub run_cycle-requires-clause-few : goal.run_cycle-requires-clause-few
run_cycle-requires-clause-few c k d below within =
    let net = c.args.evaluator.now.net in
    let tape = c.args.rows.now.tape in
    let found = (c.one_run.ensures net c.args.evaluator.now.order (cycles_of tape) (chosen net.prims (rows_of tape)) c.design-design.ensures.designed.net c.design-design.ensures.designed.order).0 in
    let few : c.loop-texts.self.cycles < 2 ^ 32 = omega (arith, c.loop-texts.invariant.within, c.ranges.to.fits) in
    few_had c.loop-texts.self found.1.0 k d (c.loop-texts.invariant.here.had found.0 found.1.0 found.1.1) few below within

pub run_cycle-requires-clause-still : goal.run_cycle-requires-clause-still
run_cycle-requires-clause-still c p m has idle =
    let net = c.args.evaluator.now.net in
    let tape = c.args.rows.now.tape in
    let found = (c.one_run.ensures net c.args.evaluator.now.order (cycles_of tape) (chosen net.prims (rows_of tape)) c.design-design.ensures.designed.net c.design-design.ensures.designed.order).0 in
    let here = c.loop-texts.invariant.here.cells found.0 found.1.0 found.1.1 p in
    here ∙ still_in_run net (cycles_of tape) (chosen net.prims (rows_of tape)) found.0 found.1.0 found.1.1 c.loop-texts.self.cycles p m (omega (arith, c.loop-texts.invariant.within, c.requires.within)) has idle

pub loop-texts-preserved : goal.loop-texts-preserved
loop-texts-preserved c =
    let before = c.loop-texts.invariant in
    let after = c.run_cycle.ensures in
    let begun = c.args.self.now.cycles in
    let t = c.loop-texts.self.cycles in
    record {
      here = subst (λ (tape : Taped). IsUnderway c.args.evaluator.now.net tape c.run_cycle.new.self c.run_cycle.new.running.slots.items) before.tape after.here;
      tape = after.tape ∙ before.tape;
      row = after.row;
      later = omega (arith, before.later, after.cycles);
      within = omega (arith, before.within, after.cycles, c.loop-texts-test.true, c.cycles.ensures);
      channels = after.channels ∙ before.channels;
      colours = after.colours ∙ before.colours;
      in_step = after.in_step;
      rooms = λ p m there. after.rooms p m there ∙ before.rooms p m there;
      room = after.room ∙ before.room;
      lines = λ names s φ are run.
          let so_far = before.lines names s φ are run in
          let more = after.lines names s φ (rw c.texts-texts.ensures.labels are) (subst (λ (tape : Taped). IsRunOf c.args.evaluator.now.net tape s φ) (sym before.tape) run) in
          let here : t ≡ begun + (t - begun) = omega (arith, before.later) in
          let next : t - begun + 1 ≡ c.run_cycle.new.self.cycles - begun = omega (arith, before.later, after.cycles) in
          more
          ∙ ap (λ (x : List ℕ). x ++ round_lines names φ t 1) (c.in_ok-reserve.ensures.items ∙ so_far)
          ∙ append_assoc c.args.lines.now.items (round_lines names φ begun (t - begun)) (round_lines names φ t 1)
          ∙ ap (λ (x : List ℕ). c.args.lines.now.items ++ x)
          (ap (λ (i : ℕ). round_lines names φ begun (t - begun) ++ round_lines names φ i 1) here
          ∙ sym (rounds_join.joined names φ begun (t - begun) 1) ∙ ap (round_lines names φ begun) next);
    }
