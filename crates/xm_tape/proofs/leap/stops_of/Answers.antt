use Rattle.std.proofs.Common.{refl}
use Rattle.xm_tape.proofs.Leaping.{stop_here, stop_on}
use Rattle.xm_tape.proofs.leap.stops_of.Goals as goal
use Rattle.xm_tape.proofs.leap.stops_of.Goals.{then-is_wanted+in_ok-push, else-is_wanted}

pub loop-place-preserved : goal.loop-place-preserved
loop-place-preserved c =
    let so_far = c.loop-place.invariant in
    let one = c.one_more-rest.ensures in
    elim c.if-is_wanted.branch [
      | then-is_wanted+in_ok-push w ↦ rw (w.stops-is, w.rest-is, w.in_ok-push.ensures.ok) (stop_here c.args.own.now c.loop-place.place c.loop-place.stops.items c.loop-place.rest c.one_more-rest.result w.no_draw-rest-then-is_wanted.result so_far one w.no_draw-rest-then-is_wanted.ensures _ refl refl)
      | else-is_wanted w ↦ rw (w.stops-is, w.rest-is) (stop_on c.args.own.now c.loop-place.place c.loop-place.stops.items c.loop-place.rest c.one_more-rest.result c.no_draw-rest.result so_far one c.no_draw-rest.ensures (λ is. let yes = c.is_wanted.ensures.no is in let not = w.if-is_wanted.false in cc))
    ]
