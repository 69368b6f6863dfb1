use Rattle.xm_trace.proofs.Cycles as lines
use Rattle.xm_trace.proofs.laws.rounds_join.Goals as goal

pub returns : goal.returns
returns c = lines.rounds_join
