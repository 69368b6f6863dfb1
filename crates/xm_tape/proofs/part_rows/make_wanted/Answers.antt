use Rattle.std.proofs.Common.{◌∙◌, ℕ, ap, length, map, subst}
use Rattle.xm_model.specs.Lending.{refill-full}
use Rattle.xm_tape.specs.Draws.{row_drawn}
use Rattle.xm_tape.specs.Inner.Forms.{component_drawn}
use Rattle.xm_tape.specs.Place.{HasWanted}
use Rattle.xm_tape.proofs.Drawing.{number_on}
use Rattle.xm_tape.proofs.part_rows.make_wanted.Goals as goal

pub returns-in-Drawn-clause-number : goal.returns-in-Drawn-clause-number
returns-in-Drawn-clause-number c t before = number_on c.args.form.now c.in-Drawn.tape c.in-Drawn.is c.as_slice.result.now c.as_slice.ensures t c.args.number c.draw_stops.result before c.draw_stops.ensures.number

pub returns-in-Drawn-clause-row : goal.returns-in-Drawn-clause-row
returns-in-Drawn-clause-row c = rw c.in-Drawn.is (λ own t are before.
    let full = refill-full (length c.args.row.now.items) c.args.row.now.items c.draw_stops.new.row (c.draw_stops.auto.row ∙ ap length c.as_mut_slice.ensures.value) in
    let made = c.draw_stops.ensures.row own (rw c.as_slice.ensures are) in
    rw full (subst (λ (x : ℕ). HasWanted own (row_drawn (map component_drawn c.in-Drawn.tape.oracles.items) x) c.draw_stops.new.row) before (rw c.as_slice.ensures at made)))
