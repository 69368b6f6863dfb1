use Rattle.xm_colours.proofs.Sets.{adds_sent, fit_first, fit_second}
use Rattle.xm_colours.proofs.spread.Spread.add_sent.Goals as goal

pub add_some-requires : goal.add_some-requires
add_some-requires c = fit_first _ _ _ _ c.sent-first.ensures c.requires.fit

pub add_some-requires-2 : goal.add_some-requires-2
add_some-requires-2 c = fit_second _ _ _ _ _ c.sent-first.ensures c.in_ok-add_some.ensures.whole c.requires.fit

pub returns : goal.returns
returns c = adds_sent _ _ _ _ _ _ _ _ _ c.sent-first.ensures c.in_ok-add_some.ensures c.in_ok-add_some-2.ensures
