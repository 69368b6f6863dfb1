use Rattle.xm_persist.proofs.Grounds as law
use Rattle.xm_persist.proofs.laws.forks_target.Goals as goal

pub returns : goal.returns
returns c = law.forks_target
