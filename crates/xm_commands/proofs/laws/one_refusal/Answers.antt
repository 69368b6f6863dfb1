use Rattle.xm_commands.proofs.OneAnswer as law
use Rattle.xm_commands.proofs.laws.one_refusal.Goals as goal

pub returns : goal.returns
returns c = law.one_refusal c.no_loop.ensures c.one_overflow.ensures
