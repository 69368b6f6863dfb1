use Rattle.std.proofs.Common.{arith}
use Rattle.std.proofs.lemmas.Option.{slice_get_within}
use Rattle.xm_plan.proofs.Checking.{schedule_from}
use Rattle.xm_plan.proofs.check.is_schedule.Goals as goal

pub returns : goal.returns
returns c = λ _. schedule_from _ c.args.positions.now c.args.tasks.now (λ k task at.
    let inside = slice_get_within c.args.tasks.now k task at in
    c.loop-k.invariant k task (omega arith) at)
