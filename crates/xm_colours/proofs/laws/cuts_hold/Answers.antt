use Rattle.xm_colours.proofs.Cutting as law
use Rattle.xm_colours.proofs.laws.cuts_hold.Goals as goal

pub returns : goal.returns
returns c = law.cuts_hold
