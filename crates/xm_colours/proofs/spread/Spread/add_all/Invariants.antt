use Rattle.std.proofs.Common.{map, take}
use Rattle.xm_colours.specs.Inner.Spreading.{Adds, pair}
use Rattle.xm_colours.proofs.spread.Spread.add_all.Given as goal

abbrev pub invariant-loop-colour : goal.invariant-loop-colour
invariant-loop-colour l = Adds (map (pair l.channel) (take l.colour-index l.colours)) l.initial.self l.self
