use Rattle.std.proofs.Common.{◌≡◌, ◌<◌, ◌^◌, List, length, map}
use Rattle.std.specs.Prelude.{Bool}
use Rattle.xm_tape.specs.Draws.{row_drawn}
use Rattle.xm_tape.specs.Inner.Forms.{component_drawn}
use Rattle.xm_tape.specs.Inner.Leaps.{AreDone, AreStops}
use Rattle.xm_tape.proofs.draws.draw_stops.Given as goal

abbrev pub invariant-loop-j : goal.invariant-loop-j
invariant-loop-j l = record {
  small : l.number < 2 ^ 64;
  wide : length l.row ≡ length l.oracles;
  done : (own : List Bool) (are : AreStops own (length l.oracles) l.stops.stops.items l.stops.rest) → AreDone own l.stops.stops.items l.j are.to (row_drawn (map component_drawn l.oracles) l.before) l.row l.before l.number;
}
