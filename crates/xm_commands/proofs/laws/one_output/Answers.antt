use Rattle.xm_commands.proofs.OneAnswer as law
use Rattle.xm_commands.proofs.laws.one_output.Goals as goal

pub returns : goal.returns
returns c = law.one_output c.one_run.ensures c.one_end.ensures c.one_verdict.ensures
