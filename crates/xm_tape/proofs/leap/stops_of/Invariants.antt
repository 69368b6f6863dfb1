use Rattle.xm_tape.specs.Inner.Leaps.{AreStops}
use Rattle.xm_tape.proofs.leap.stops_of.Given as goal

abbrev pub invariant-loop-place : goal.invariant-loop-place
invariant-loop-place l = AreStops l.own l.place l.stops.items l.rest
