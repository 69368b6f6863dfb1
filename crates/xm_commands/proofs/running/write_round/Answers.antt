use Rattle.xm_io.specs.Lemmas.Fronts.{appends_same, front_same, nothing_front, on_err, on_err_goes, on_ok_goes}
use Rattle.xm_commands.proofs.Rounds.{lines_alone}
use Rattle.xm_commands.proofs.running.write_round.Goals as goal

pub returns-in_err-run-clause-front : goal.returns-in_err-run-clause-front
returns-in_err-run-clause-front g c = λ names s φ are run. on_err c.from_residual.result (nothing_front _ _)

pub returns-clause-whole : goal.returns-clause-whole
returns-clause-whole g c = λ names s φ are run.
    let same = lines_alone names φ c.args.run.now.text.cycles c.run.new.self.cycles c.args.to _ c.run.new.lines.items c.as_bytes.result.now c.clear.ensures.items c.in_ok-run.ensures.come c.as_bytes.ensures (c.in_ok-run.ensures.lines names s φ are run) in
    on_ok_goes c.write_bytes.result (λ h. appends_same _ _ _ _ same h) c.write_bytes.ensures.whole

pub returns-clause-front : goal.returns-clause-front
returns-clause-front g c = λ names s φ are run.
    let same = lines_alone names φ c.args.run.now.text.cycles c.run.new.self.cycles c.args.to _ c.run.new.lines.items c.as_bytes.result.now c.clear.ensures.items c.in_ok-run.ensures.come c.as_bytes.ensures (c.in_ok-run.ensures.lines names s φ are run) in
    on_err_goes c.write_bytes.result (λ h. front_same _ _ _ _ same h) c.write_bytes.ensures.front
