use Rattle.xm_elim.proofs.OneEnd as law
use Rattle.xm_elim.proofs.laws.one_overflow.Goals as goal

pub returns : goal.returns
returns c = law.one_overflow c.first_factor_is_positive.ensures
