use Rattle.std.proofs.Common.{◌≡◌, ◌∙◌, ◌-◌, subst, sym, vec_len}
use Rattle.std.proofs.lemmas.List.Elements.{All-take}
use Rattle.xm_board.specs.Run.{JobName, RunName}
use Rattle.xm_tests_board.specs.Inner.Stays.{AreOf}
use Rattle.xm_tests_board.proofs.suites.orders.return_all.Goals as goal

pub loop-job-preserved : goal.loop-job-preserved
loop-job-preserved c =
    let run = c.loop-job.board.run in
    let kept : AreOf run c.pop.new.self.items =
    subst (AreOf run) (sym c.pop.ensures.rest)
    (All-take (λ (j : JobName). j.run ≡ run) (vec_len c.loop-job.jobs - 1) c.loop-job.jobs.items c.loop-job.invariant.jobs) in
    let was = c.loop-job.invariant.stays in let is = c.returns.ensures in
    record {
      stays = (is.0 ∙ was.0, is.1 ∙ was.1, is.2 ∙ was.2);
      jobs = subst (λ (r : RunName). AreOf r c.pop.new.self.items) (sym is.0) kept;
    }
