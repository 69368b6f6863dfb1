use Rattle.xm_colours.proofs.Spreading.{at_end, at_start}
use Rattle.xm_colours.proofs.spread.infer.Goals as goal

pub add_each_given-requires : goal.add_each_given-requires
add_each_given-requires c = at_start c.args.net.now _ _ _ c.channels.ensures.value c.in_ok-spread.ensures.words c.in_ok-spread.ensures.pending

pub returns-clause-colours : goal.returns-clause-colours
returns-clause-colours c =
    let added = c.in_ok-add_each_given.ensures in
    let steps = c.in_ok-step_all.ensures in
    at_end c.args.net.now _ _ _ _ steps.spread steps.done added.given steps.kept c.of.ensures
