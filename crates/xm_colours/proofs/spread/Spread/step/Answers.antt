use Rattle.xm_colours.proofs.Spreading.{last_channel, last_covers, last_fits, stepped_to}
use Rattle.xm_colours.proofs.spread.Spread.step.Goals as goal

pub target-requires : goal.target-requires
target-requires c = last_channel c.args.net.now c.is_net.ensures _ _ _ _ c.requires.spread c.take_last-it.ensures.pending

pub add_sent-requires-clause-covers : goal.add_sent-requires-clause-covers
add_sent-requires-clause-covers c = last_covers c.args.net.now c.is_net.ensures _ _ _ _ c.requires.spread c.take_last-it.ensures.pending c.target.result _ c.prim-prim.ensures

pub add_sent-requires-clause-fit : goal.add_sent-requires-clause-fit
add_sent-requires-clause-fit c = last_fits c.args.net.now c.is_net.ensures _ _ _ _ c.requires.spread c.take_last-it.ensures.pending c.target.result _ c.prim-prim.ensures _ c.take_last-it.ensures.words

pub returns : goal.returns
returns c =
    let made = stepped_to c.args.net.now c.is_net.ensures _ _ _ _ c.requires.spread c.take_last-it.ensures.pending c.target.result _ c.prim-prim.ensures c.target.ensures.target _ _ _ c.take_last-it.ensures.words c.in_ok-add_sent.ensures in
    record { spread = made.0; less = made.1; kept = made.2 }
