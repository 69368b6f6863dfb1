use Rattle.xm_colours.proofs.Reading.{has_not, has_where}
use Rattle.xm_colours.specs.Family.{colours_at}
use Rattle.xm_colours.proofs.colours.Colours.has.Goals as goal

pub returns-then-colour-lt64 : goal.returns-then-colour-lt64
returns-then-colour-lt64 c = has_where (colours_at c.args.self.now c.args.channel) c.word-word.result c.word-word.ensures c.args.colour c.contains.result c.if-colour-lt64.true c.contains.ensures

pub returns-else-colour-lt64 : goal.returns-else-colour-lt64
returns-else-colour-lt64 c = has_not (colours_at c.args.self.now c.args.channel) c.word-word.result c.word-word.ensures c.args.colour c.if-colour-lt64.false
