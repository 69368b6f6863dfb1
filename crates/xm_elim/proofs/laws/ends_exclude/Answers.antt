use Rattle.xm_elim.proofs.OneEnd as law
use Rattle.xm_elim.proofs.laws.ends_exclude.Goals as goal

pub returns : goal.returns
returns c = law.exclusive c.first_factor_is_positive.ensures
