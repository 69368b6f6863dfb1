use Rattle.xm_commands.proofs.Verified as law
use Rattle.xm_commands.proofs.laws.verified_nets_hold.Goals as goal

pub returns : goal.returns
returns c = law.verified_hold c.proofs_hold.ensures
