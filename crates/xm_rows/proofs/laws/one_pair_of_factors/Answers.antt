use Rattle.xm_rows.specs.Lemmas.Meeting.{one_pair}
use Rattle.xm_rows.proofs.laws.one_pair_of_factors.Goals as goal

pub returns : goal.returns
returns c = one_pair
