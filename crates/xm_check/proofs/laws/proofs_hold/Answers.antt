use Rattle.xm_check.proofs.Sound as law
use Rattle.xm_check.proofs.laws.proofs_hold.Goals as goal

pub returns : goal.returns
returns c = law.proofs_hold c.rules_hold.ensures c.clashes_hold.ensures c.jams_are_dead.ensures c.colours_hold.ensures c.lemmas_hold.ensures
