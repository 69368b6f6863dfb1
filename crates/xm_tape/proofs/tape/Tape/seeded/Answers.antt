use Rattle.std.proofs.Common.{sym, subst}
use Rattle.xm_tape.specs.Taped.{Fits}
use Rattle.xm_tape.proofs.Drawing.{seeded_as}
use Rattle.xm_tape.proofs.Fitting.{fits_seeded}
use Rattle.xm_tape.proofs.tape.Tape.seeded.Goals as goal

pub returns-clause-tape : goal.returns-clause-tape
returns-clause-tape c =
    let made = c.in_ok-tape.ensures in
    seeded_as c.args.design.now.net.prims c.in_ok-tape.tape c.args.cycles c.args.seed made.oracles made.cycles made.seed

pub returns-clause-fits : goal.returns-clause-fits
returns-clause-fits c = subst (Fits c.args.design.now.net) (sym (returns-clause-tape c)) (fits_seeded c.args.design.now.net c.args.cycles c.args.seed)
