use Rattle.xm_colours.proofs.Sets.{fit_some}
use Rattle.xm_colours.proofs.spread.Spread.add_some.Goals as goal

pub add-requires-clause-channel : goal.add-requires-clause-channel
add-requires-clause-channel c = (fit_some c.args.it c.in-Some.it _ c.in-Some.is c.requires).0

pub add-requires-clause-colour : goal.add-requires-clause-colour
add-requires-clause-colour c = (fit_some c.args.it c.in-Some.it _ c.in-Some.is c.requires).1
