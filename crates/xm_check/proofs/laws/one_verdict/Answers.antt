use Rattle.xm_check.proofs.Exact as law
use Rattle.xm_check.proofs.laws.one_verdict.Goals as goal

pub returns : goal.returns
returns c = law.one_verdict
