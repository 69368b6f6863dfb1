use Rattle.xm_colours.specs.Inner.Spreading.{HasGiven, IsSpread}
use Rattle.xm_colours.proofs.spread.Spread.add_each_given.Given as goal

abbrev pub invariant-loop-prim : goal.invariant-loop-prim
invariant-loop-prim l = record {
  spread : IsSpread l.net l.self;
  given : HasGiven l.net l.prim-index l.self.words.items;
}
