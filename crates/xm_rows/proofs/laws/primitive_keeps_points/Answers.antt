use Rattle.xm_rows.specs.Lemmas.Meeting.{primitive_points}
use Rattle.xm_rows.proofs.laws.primitive_keeps_points.Goals as goal

pub returns : goal.returns
returns c = primitive_points
