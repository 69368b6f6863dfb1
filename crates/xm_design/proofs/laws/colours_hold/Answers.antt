use Rattle.xm_design.proofs.Coloured as law
use Rattle.xm_design.proofs.laws.colours_hold.Goals as goal

pub returns : goal.returns
returns c = law.colours_hold
