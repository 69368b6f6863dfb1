use Rattle.xm_parts.proofs.Choosing.{choosing_law}
use Rattle.xm_parts.proofs.laws.choosing_law.Goals as goal

pub returns : goal.returns
returns c = choosing_law
