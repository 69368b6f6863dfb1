use Rattle.xm_persist.proofs.RightsHold as law
use Rattle.xm_persist.proofs.laws.grants_hold.Goals as goal

pub returns : goal.returns
returns c = law.grants_hold
