use Rattle.xm_parts.proofs.Consecutive.{capacity_law}
use Rattle.xm_parts.proofs.laws.capacity_law.Goals as goal

pub returns : goal.returns
returns c = capacity_law
