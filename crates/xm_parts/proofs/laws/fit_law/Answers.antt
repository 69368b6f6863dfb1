use Rattle.xm_parts.proofs.FitRows.{fit_law}
use Rattle.xm_parts.proofs.laws.fit_law.Goals as goal

pub returns : goal.returns
returns c = fit_law
