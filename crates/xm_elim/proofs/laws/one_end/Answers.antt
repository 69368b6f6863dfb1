use Rattle.xm_elim.proofs.OneEnd as law
use Rattle.xm_elim.proofs.laws.one_end.Goals as goal

pub returns : goal.returns
returns c = law.one_end c.first_factor_is_positive.ensures
