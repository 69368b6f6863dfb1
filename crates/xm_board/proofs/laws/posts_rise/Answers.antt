use Rattle.xm_board.proofs.Standing.{posts}
use Rattle.xm_board.proofs.laws.posts_rise.Goals as goal

pub returns : goal.returns
returns c = posts
