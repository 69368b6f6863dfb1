use Rattle.xm_rows.specs.Lemmas.Meeting.{gives_back_points}
use Rattle.xm_rows.proofs.laws.combination_gives_back_points.Goals as goal

pub returns : goal.returns
returns c = gives_back_points
