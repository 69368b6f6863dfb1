use Rattle.xm_parts.proofs.FitRows.{few_law}
use Rattle.xm_parts.proofs.laws.few_law.Goals as goal

pub returns : goal.returns
returns c = few_law
