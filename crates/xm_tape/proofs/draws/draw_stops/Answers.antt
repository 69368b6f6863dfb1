use Rattle.std.proofs.Common.{◌∙◌, Some, ap, arith, get_or, length, map, sym}
use Rattle.std.specs.Prelude.{Option, option_map}
use Rattle.std.proofs.lemmas.List.{length-map, length-set}
use Rattle.std.proofs.lemmas.Option.{slice_get-get_or, slice_get-map}
use Rattle.xm_tape.proofs.Leaping.{done_more, drawn_at, first_done, length-row_drawn, number_all, number_at_stop, row_all, stop_inside}
use Rattle.xm_tape.specs.Draws.{choice_drawn, row_drawn}
use Rattle.xm_tape.specs.Inner.Forms.{component_drawn}
use Rattle.xm_tape.specs.declared.drawn.Oracle.{Oracle}
use Rattle.xm_tape.specs.declared.leap.Stop.{Stop}
use Rattle.xm_tape.proofs.draws.draw_stops.Goals as goal

abbrev no_stop : Stop
no_stop = record { place = 0; leap = record { multiplier = 0; increment = 0 } }

pub loop-j-init : goal.loop-j-init
loop-j-init c = record {
  small = c.ranges.before.fits;
  wide = c.requires.wide;
  done = λ own are. first_done own (length c.args.oracles.now) c.args.stops.now.stops.items c.args.stops.now.rest are (row_drawn (map component_drawn c.args.oracles.now) c.args.before) c.args.row.now c.args.before;
}

pub bounds-oracles-stop : goal.bounds-oracles-stop
bounds-oracles-stop c =
    let own = c.requires.stops.0 in let are = c.requires.stops.1 in
    rw c.as_slice-listed.ensures
    (stop_inside own (length c.args.oracles.now) c.args.stops.now.stops.items c.args.stops.now.rest are c.loop-j.j no_stop (rw c.as_slice-listed.ensures at c.loop-j-test.true)
    (row_drawn (map component_drawn c.args.oracles.now) c.args.before) c.loop-j.row c.args.before c.loop-j.number (c.loop-j.invariant.done own are))

pub bounds-row-stop : goal.bounds-row-stop
bounds-row-stop c =
    let own = c.requires.stops.0 in let are = c.requires.stops.1 in
    let wide = c.loop-j.invariant.wide in
    let inside = stop_inside own (length c.args.oracles.now) c.args.stops.now.stops.items c.args.stops.now.rest are c.loop-j.j no_stop (rw c.as_slice-listed.ensures at c.loop-j-test.true)
    (row_drawn (map component_drawn c.args.oracles.now) c.args.before) c.loop-j.row c.args.before c.loop-j.number (c.loop-j.invariant.done own are) in
    rw c.as_slice-listed.ensures (omega arith)

pub loop-j-preserved : goal.loop-j-preserved
loop-j-preserved c =
    let os = c.args.oracles.now in
    let stops = c.args.stops.now.stops.items in
    let listed = c.as_slice-listed.ensures in
    let s = get_or stops c.loop-j.j no_stop in
    let whole = row_drawn (map component_drawn os) c.args.before in
    let o = c.index-oracles-stop.result in
    let is = (rw listed at c.index-oracles-stop.is) in
    let below = (rw listed at c.loop-j-test.true) in
    rw listed (record {
      small = c.after-number.ensures.small;
      wide = length-set c.loop-j.row s.place c.choice_drawn.result ∙ c.loop-j.invariant.wide;
      done = λ own are.
          let done = c.loop-j.invariant.done own are in
          let leaps = (rw listed at c.after-number.ensures.after) in
          let inside = stop_inside own (length os) stops c.args.stops.now.rest are c.loop-j.j no_stop below whole c.loop-j.row c.args.before c.loop-j.number done in
          let at = number_at_stop own (length os) stops c.args.stops.now.rest are c.loop-j.j no_stop below whole c.loop-j.row c.args.before c.loop-j.number done c.after-number.result leaps in
          done_more own (length os) stops c.args.stops.now.rest are c.loop-j.j no_stop below whole c.loop-j.row c.args.before c.loop-j.number done c.after-number.result c.loop-j.invariant.small leaps c.choice_drawn.result (let wide = c.loop-j.invariant.wide in omega arith)
          (drawn_at (map component_drawn os) s.place c.args.before (component_drawn o) (slice_get-map component_drawn os s.place ∙ ap (λ (x : Option Oracle). option_map component_drawn x) (slice_get-get_or os s.place o inside ∙ ap Some (sym is)))
          ∙ ap Some (ap (choice_drawn (component_drawn o)) (sym at) ∙ sym c.choice_drawn.ensures));
    })

pub returns-clause-row : goal.returns-clause-row
returns-clause-row c own are =
    let os = c.args.oracles.now in
    let ms = map component_drawn os in
    row_all own (length os) c.args.stops.now.stops.items c.args.stops.now.rest are (row_drawn ms c.args.before) c.loop-j.row c.args.before c.loop-j.j c.loop-j.number
    (let past = (rw c.as_slice-listed.ensures at c.loop-j-test.false) in omega arith) (c.loop-j.invariant.done own are) c.loop-j.invariant.wide (length-row_drawn ms c.args.before ∙ length-map os component_drawn)

pub returns-clause-number : goal.returns-clause-number
returns-clause-number c =
    let own = c.requires.stops.0 in let are = c.requires.stops.1 in
    number_all own (length c.args.oracles.now) c.args.stops.now.stops.items c.args.stops.now.rest are (row_drawn (map component_drawn c.args.oracles.now) c.args.before) c.loop-j.row c.args.before c.loop-j.j c.loop-j.number
    (let past = (rw c.as_slice-listed.ensures at c.loop-j-test.false) in omega arith) (c.loop-j.invariant.done own are) c.after.result c.after.ensures.after
