use Rattle.std.proofs.Common.{◌≡◌, ◌<◌, length, Some, ap, sym, subst, ◌∙◌, arith}
use Rattle.xm_board.proofs.Keeping.{given_back_board, newest_of, rows_of_run, written}
use Rattle.xm_board.specs.Core.{Core, IsCore, cycle}
use Rattle.xm_board.specs.Inner.Jobs.{run_in}
use Rattle.xm_board.specs.Run.{Boarded, JobName}
use Rattle.xm_board.proofs.board.Board.give_back.Goals as goal

pub bounds-as_mut_slice-part : goal.bounds-as_mut_slice-part
bounds-as_mut_slice-part c =
    let part : c.job.inside.part < c.args.self.now.core.count = c.is_current.ensures.part c.if-not-is_current.false in
    let count = ap (λ (b : Boarded). b.core.count) c.self.view_is in
    let long = c.self.invariant.newest_are.whole in
    let seen = ap length c.as_mut_slice.ensures.value in
    omega arith

pub give_back-requires : goal.give_back-requires
give_back-requires c =
    let part : c.job.inside.part < c.args.self.now.core.count = c.is_current.ensures.part c.if-not-is_current.false in
    let count = ap (λ (b : Boarded). b.core.count) c.self.view_is in
    omega arith

pub invariant_of-self : goal.invariant_of-self
invariant_of-self c =
    let it = c.self.inside in
    let job = c.job.inside in
    let core : it.core ≡ c.args.self.now.core = ap (λ (b : Boarded). b.core) c.self.view_is in
    let part : job.part < it.core.count = subst (λ (d : Core). job.part < d.count) (sym core) (c.is_current.ensures.part c.if-not-is_current.false) in
    let at : cycle it.core job.part ≡ job.cycle = ap (λ (d : Core). cycle d job.part) core ∙ (c.is_current.ensures.yes c.if-not-is_current.false).1 in
    let is_core : IsCore it.core = subst IsCore (sym core) c.is_current.ensures.core in
    let run : run_in job.design.now job.parts.now job.newest.choices.tape ≡ run_in it.design.now it.parts.now it.tape.now = ap (λ (j : JobName). j.run) c.job.view_is ∙ c.requires ∙ sym (ap (λ (b : Boarded). b.run) c.self.view_is) in
    given_back_board it.design.now it.tape.now it.parts.now it.core _ it.floor it.logs.items it.moves.items it.far.items it.newest.items _ job.part job.newest is_core part
    (newest_of _ _ job.part _ _ job.newest run (sym at) c.job.invariant.newest)
    (rows_of_run _ _ job.part _ _ job.newest run (sym at) (λ s φ named. (c.job.invariant.stands s φ named).row))
    (written it.newest.items c.as_mut_slice.result.now job.part (Some job.newest) c.as_mut_slice.ensures.value) c.give_back.ensures c.self.invariant
