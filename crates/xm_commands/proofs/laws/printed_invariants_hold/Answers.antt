use Rattle.xm_commands.proofs.Printed as law
use Rattle.xm_commands.proofs.laws.printed_invariants_hold.Goals as goal

pub returns : goal.returns
returns c = law.printed_hold c.lemmas_hold.ensures
