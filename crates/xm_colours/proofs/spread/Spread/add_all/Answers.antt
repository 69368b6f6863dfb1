use Rattle.std.proofs.Common.{arith}
use Rattle.xm_colours.proofs.Sets.{adds_all, adds_more, adds_start, fit_at}
use Rattle.xm_colours.proofs.spread.Spread.add_all.Goals as goal

pub loop-colour-init : goal.loop-colour-init
loop-colour-init c = adds_start c.args.channel c.args.colours.now c.args.self.now.words.items c.args.self.now.pending.items

pub add-requires-clause-channel : goal.add-requires-clause-channel
add-requires-clause-channel c = let whole = c.loop-colour.invariant.whole in let r = (fit_at c.args.channel c.args.colours.now _ c.requires c.loop-colour.colour-index c.loop-colour-test.true).0 in omega arith

pub add-requires-clause-colour : goal.add-requires-clause-colour
add-requires-clause-colour c = (fit_at c.args.channel c.args.colours.now _ c.requires c.loop-colour.colour-index c.loop-colour-test.true).1

pub loop-colour-preserved : goal.loop-colour-preserved
loop-colour-preserved c = adds_more c.args.channel c.args.colours.now c.loop-colour.colour-index c.loop-colour-test.true _ _ _ _ _ _ c.loop-colour.invariant c.in_ok-add.ensures

pub returns : goal.returns
returns c = adds_all c.args.channel c.args.colours.now c.loop-colour.colour-index c.loop-colour-test.false _ _ _ _ c.loop-colour.invariant
