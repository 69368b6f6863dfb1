use Rattle.xm_colours.proofs.Words.{with_other, with_same}
use Rattle.xm_colours.proofs.word.with.Goals as goal

pub returns-clause-same : goal.returns-clause-same
returns-clause-same c = with_same c.args.word c.args.colour c.requires

pub returns-clause-others : goal.returns-clause-others
returns-clause-others c e apart = with_other c.args.word c.args.colour e c.requires apart
