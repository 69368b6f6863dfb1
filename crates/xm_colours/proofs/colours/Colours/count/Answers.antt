use Rattle.xm_colours.proofs.Reading.{count}
use Rattle.xm_colours.specs.Family.{colours_at}
use Rattle.xm_colours.proofs.colours.Colours.count.Goals as goal

pub returns-clause-number : goal.returns-clause-number
returns-clause-number c = count (colours_at c.args.self.now c.args.channel) c.word.result c.word.ensures c.count_below.result c.count_below.ensures.number
