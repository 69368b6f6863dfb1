use Rattle.xm_trace.proofs.Running as running
use Rattle.xm_trace.proofs.laws.rounds_follow.Goals as goal

pub returns : goal.returns
returns c = running.rounds_follow c.one_run.ensures
