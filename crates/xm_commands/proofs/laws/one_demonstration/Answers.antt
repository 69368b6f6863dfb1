use Rattle.xm_commands.proofs.OneCount.{one_text}
use Rattle.xm_commands.proofs.laws.one_demonstration.Goals as goal

pub returns : goal.returns
returns c = one_text c.one_run.ensures
