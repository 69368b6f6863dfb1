use Rattle.xm_design.proofs.Fitting as law
use Rattle.xm_design.proofs.laws.fits_next.Goals as goal

pub returns : goal.returns
returns c = law.fits_next
