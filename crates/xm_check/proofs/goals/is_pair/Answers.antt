use Rattle.std.proofs.Common.{◌≡◌, ◌<◌, sym, ◌∙◌, ap, arith}
use Rattle.std.proofs.lemmas.Bool.Decides.{Decides-ltb}
use Rattle.xm_check.proofs.Marking.{stands}
use Rattle.xm_check.proofs.goals.is_pair.Goals as goal
use Rattle.xm_colours.specs.Family.{colours_at}
use Rattle.xm_model.specs.Membership.{times}
use Rattle.xm_model.specs.Net.{Network}

pub returns-clause-colour : goal.returns-clause-colour
returns-clause-colour c is =
    let counted : 0 < times c.args.colour (colours_at c.args.design.now.colours c.args.channel) =
    (Decides-ltb 0 (times c.args.colour (colours_at c.args.design.now.colours c.args.channel))).0 (sym c.has_colour.ensures ∙ is) in
    let below = c.colours-known.ensures.below c.args.channel c.args.colour (stands c.args.colour (colours_at c.args.design.now.colours c.args.channel) counted) in
    let few = c.is_net.ensures.limits.colours in
    let same : c.net-net.result.now.colours ≡ c.args.design.now.net.colours = ap (λ (n : Network). n.colours) c.net-net.ensures.net in
    omega (arith, below, few, same)
