use Rattle.xm_commands.proofs.OneAnswer as law
use Rattle.xm_commands.proofs.laws.no_output_of_refused.Goals as goal

pub returns : goal.returns
returns c = law.no_output c.no_loop.ensures c.ends_exclude.ensures
