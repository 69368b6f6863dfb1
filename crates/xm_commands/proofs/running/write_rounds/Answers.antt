use Rattle.std.proofs.Common.{◌≡◌, ◌+◌, ◌-◌, ◌++◌, ◌∙◌, ℕ, List, ap, arith, refl, subst, sym}
use Rattle.std.proofs.lemmas.List.{append-nil}
use Rattle.xm_io.specs.Lemmas.Fronts.{appends_nothing, appends_same, front_more, front_of, on_err, on_err_goes, on_ok_goes}
use Rattle.xm_commands.proofs.Rounds.{are_still, ended, joined}
use Rattle.xm_commands.proofs.running.write_rounds.Goals as goal
use Rattle.xm_io.specs.Lemmas.Appending.{Appends-then}
use Rattle.xm_model.specs.Naming.{naming_of}
use Rattle.xm_tape.specs.Place.{Place}
use Rattle.xm_tape.specs.Taped.{Taped, cycles_of}
use Rattle.xm_trace.specs.Lemmas.Joining.{rest_of}
use Rattle.xm_commands.specs.Inner.RunSoFar.{IsBegun}
use Rattle.xm_trace.specs.Runs.{IsRunOf}
use Rattle.xm_trace.specs.Text.{end_text, round_lines}

pub loop-run-init : goal.loop-run-init
loop-run-init g c = record {
  within = omega arith;
  underway = c.requires.underway;
  tape = ap (λ (place : Place). place.tape) c.in_ok-rows.ensures;
  row = ap (λ (place : Place). place.cycle) c.in_ok-rows.ensures ∙ sym c.requires.begins;
  labels = refl;
  unharmed = refl;
  written = λ s φ run. appends_same _ _ _ _ (ap (round_lines (naming_of c.args.names.now) φ 0) (sym c.requires.begins)) (appends_nothing _);
}

pub returns-in_err-write_round-clause-front : goal.returns-in_err-write_round-clause-front
returns-in_err-write_round-clause-front g c = λ text is.
    let names = naming_of c.args.names.now in
    let n = cycles_of c.args.tape.now in
    let from = c.loop-run.run.text.cycles in
    let to = c.round_end-to.result in
    let same = joined c.rounds_join.ensures names is.frames from to (omega (arith, c.round_end-to.ensures.later)) in
    let rest = rest_of c.rounds_join.ensures names is.frames to n (omega (arith, c.round_end-to.ensures.within, c.cycles-cycles.ensures.number)) in
    let lines : List ℕ = round_lines names is.frames (0 + to) (n - to) ++ end_text names is.frames n in
    on_err c.from_residual-in_err-write_round.result
    (front_more (g.K.Sink.held c.args.out.now) (g.K.Sink.held c.loop-run.out) (g.K.Sink.held c.write_round.new.out) _ _ _ text (is.same ∙ rest ∙ ap (λ (x : List ℕ). x ++ lines) (sym same)) (c.loop-run.invariant.written is.states is.frames is.run) (c.in_err-write_round.ensures.front names is.states is.frames (are_still _ _ _ c.loop-run.invariant.labels c.requires.labels) (subst (λ (tape : Taped). IsRunOf c.args.evaluator.now.net tape is.states is.frames) (sym c.loop-run.invariant.tape) is.run)))

pub loop-run-preserved : goal.loop-run-preserved
loop-run-preserved g c =
    let names = naming_of c.args.names.now in
    let from = c.loop-run.run.text.cycles in
    let to = c.round_end-to.result in
    let come = c.in_ok-write_round.ensures.come in
    let before = c.loop-run.invariant in
    record {
      within = omega (arith, come, c.round_end-to.ensures.within);
      underway = subst (λ (tape : Taped). IsBegun c.args.evaluator.now tape c.write_round.new.run) before.tape c.in_ok-write_round.ensures.underway;
      tape = c.in_ok-write_round.ensures.tape ∙ before.tape;
      row = c.in_ok-write_round.ensures.row;
      labels = c.in_ok-write_round.ensures.labels ∙ before.labels;
      unharmed = c.in_ok-write_round.ensures.unharmed ∙ before.unharmed;
      written = λ s φ run.
          let same = joined c.rounds_join.ensures names φ from to (omega (arith, c.round_end-to.ensures.later)) in
          appends_same (g.K.Sink.held c.args.out.now) (g.K.Sink.held c.write_round.new.out) _ _ (same ∙ ap (round_lines names φ 0) (sym come))
          (Appends-then (g.K.Sink.held c.args.out.now) (g.K.Sink.held c.loop-run.out) (g.K.Sink.held c.write_round.new.out) _ _ (before.written s φ run) (c.in_ok-write_round.ensures.whole names s φ (are_still _ _ _ before.labels c.requires.labels) (subst (λ (tape : Taped). IsRunOf c.args.evaluator.now.net tape s φ) (sym before.tape) run)));
    }

pub returns-in_err-end-clause-front : goal.returns-in_err-end-clause-front
returns-in_err-end-clause-front g c = λ text is.
    on_err c.from_residual-in_err-end.result
    (front_of (g.K.Sink.held c.args.out.now) (g.K.Sink.held c.loop-run.out) _ _ text (is.same ∙ rest_of c.rounds_join.ensures (naming_of c.args.names.now) is.frames c.loop-run.run.text.cycles (cycles_of c.args.tape.now) (omega (arith, c.loop-run.invariant.within, c.cycles-cycles.ensures.number)))
    (c.loop-run.invariant.written is.states is.frames is.run))

pub returns-clause-whole : goal.returns-clause-whole
returns-clause-whole g c = λ text is.
    let all : c.loop-run.run.text.cycles ≡ cycles_of c.args.tape.now = omega (arith, c.loop-run.invariant.within, c.loop-run-test.false, c.cycles-cycles.ensures.number) in
    let same = ended (naming_of c.args.names.now) is.frames all refl (c.in_ok-end.ensures is.frames (c.loop-run.invariant.underway.here.had is.states is.frames is.run)) is.same in
    on_ok_goes c.write_text.result
    (λ h. appends_same (g.K.Sink.held c.args.out.now) (g.K.Sink.held c.write_text.new.out) _ _ same (Appends-then (g.K.Sink.held c.args.out.now) (g.K.Sink.held c.loop-run.out) (g.K.Sink.held c.write_text.new.out) _ _ (c.loop-run.invariant.written is.states is.frames is.run) h))
    c.write_text.ensures.whole

pub returns-clause-front : goal.returns-clause-front
returns-clause-front g c = λ text is.
    let all : c.loop-run.run.text.cycles ≡ cycles_of c.args.tape.now = omega (arith, c.loop-run.invariant.within, c.loop-run-test.false, c.cycles-cycles.ensures.number) in
    let same = ended (naming_of c.args.names.now) is.frames all refl (c.in_ok-end.ensures is.frames (c.loop-run.invariant.underway.here.had is.states is.frames is.run)) is.same in
    on_err_goes c.write_text.result
    (λ h. front_more (g.K.Sink.held c.args.out.now) (g.K.Sink.held c.loop-run.out) (g.K.Sink.held c.write_text.new.out) _ _ _ text (sym same ∙ sym (append-nil _)) (c.loop-run.invariant.written is.states is.frames is.run) h)
    c.write_text.ensures.front
