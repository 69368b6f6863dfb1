use Rattle.xm_search.proofs.Finishing.{halted_all}
use Rattle.xm_search.specs.Inner.Ground.{lemmas_of}
use Rattle.xm_search.proofs.searching.halted.Goals as goal

pub returns : goal.returns
returns c = λ order budget ordered few small halt.
    halted_all c.args.design.now c.is_designed.ensures c.colours.ensures.below (lemmas_of c.args.ground) order c.requires.few_lemmas ordered few budget small c.args.progress halt
