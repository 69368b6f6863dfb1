use Rattle.std.proofs.Common.{◌∙◌, ap}
use Rattle.xm_tape.specs.Inner.Forms.{drawn_row}
use Rattle.xm_tape.specs.Place.{Place}
use Rattle.xm_tape.proofs.Drawing.{row_on}
use Rattle.xm_tape.proofs.rows.Rows.row.Goals as goal

pub returns-in-Drawn : goal.returns-in-Drawn
returns-in-Drawn c =
    let place = c.args.self.now in
    c.as_slice.ensures ∙ c.self.invariant.1.0
    ∙ ap (drawn_row c.self.inside.form.now) (ap (λ (p : Place). p.cycle) c.self.view_is)
    ∙ row_on c.self.inside.form.now c.in-Drawn.field-0 c.in-Drawn.is place.tape place.cycle (ap (λ (p : Place). p.tape) c.self.view_is) c.requires
