use Rattle.std.proofs.Common.{arith}
use Rattle.xm_colours.proofs.Reading.{place, tells}
use Rattle.xm_colours.specs.Family.{colours_at}
use Rattle.xm_colours.proofs.colours.Colours.place.Goals as goal

pub count_below-requires : goal.count_below-requires
count_below-requires c = let below = (tells (colours_at c.args.self.now c.args.channel) c.word.result c.word.ensures c.args.colour c.requires).0 in omega arith

pub returns : goal.returns
returns c = place (colours_at c.args.self.now c.args.channel) c.word.result c.word.ensures c.args.colour c.count_below.result c.requires c.count_below.ensures.number
