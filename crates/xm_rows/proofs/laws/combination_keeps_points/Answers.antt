use Rattle.xm_rows.specs.Lemmas.Meeting.{keeps_points}
use Rattle.xm_rows.proofs.laws.combination_keeps_points.Goals as goal

pub returns : goal.returns
returns c = keeps_points
