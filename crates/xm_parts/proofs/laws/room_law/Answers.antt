use Rattle.xm_parts.proofs.Consecutive.{room_law}
use Rattle.xm_parts.proofs.laws.room_law.Goals as goal

pub returns : goal.returns
returns c = room_law
