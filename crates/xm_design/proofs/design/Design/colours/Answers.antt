use Rattle.std.proofs.Common.{subst}
use Rattle.xm_colours.specs.Family.{colours_at}
use Rattle.xm_design.proofs.Fitting.{colours_below}
use Rattle.xm_design.specs.Designed.{IsDesigned}
use Rattle.xm_design.proofs.design.Design.colours.Goals as goal

pub returns-clause-below : goal.returns-clause-below
returns-clause-below c =
    let is : IsDesigned c.args.self.now = subst IsDesigned c.self.view_is c.self.invariant.designed in
    λ k d inside. colours_below c.args.self.now.net (colours_at c.args.self.now.colours) is.net is.colours k d inside
