use Rattle.xm_parts.proofs.Consecutive.{change_law}
use Rattle.xm_parts.proofs.laws.change_law.Goals as goal

pub returns : goal.returns
returns c = change_law
