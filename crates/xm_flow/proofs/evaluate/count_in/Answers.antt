use Rattle.std.proofs.Common.{◌≡◌, ◌∙◌, ◌+◌, ◌-◌, sym, arith}
use Rattle.xm_model.specs.Views.{content_at}
use Rattle.xm_flow.proofs.Reaching.{count_point}
use Rattle.xm_flow.specs.Lemmas.Listing.{there}
use Rattle.xm_flow.proofs.evaluate.count_in.Goals as goal

pub returns : goal.returns
returns c =
    let own = there c.args.design.now.net.prims c.args.reached.prim c.requires.inside in
    let number : c.args.j ≡ c.args.reached.below + (c.args.j - c.args.reached.below) = omega (arith, c.requires.low) in
    c.packets_in.ensures ∙ sym (count_point c.args.design.now c.args.reached.prim c.args.reached.below c.args.j (c.args.j - c.args.reached.below) c.colour_of-colour.result own.0
    (content_at c.args.state.now.cells.items) c.requires own.1 number (c.colour_of-colour.ensures own.0 own.1))
