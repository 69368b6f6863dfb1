use Rattle.std.proofs.Common.{◌∙◌, [], List, ap, get_or, subst}
use Rattle.std.specs.Prelude.{Bool}
use Rattle.xm_model.specs.declared.state.Choice.{Choice}
use Rattle.xm_tape.specs.Inner.Forms.{drawn_row}
use Rattle.xm_tape.specs.Place.{HasWanted, PartPlace}
use Rattle.xm_tape.specs.Taped.{rows_of}
use Rattle.xm_tape.proofs.Drawing.{row_on}
use Rattle.xm_tape.proofs.part_rows.PartRows.row.Goals as goal

pub returns-in-Drawn : goal.returns-in-Drawn
returns-in-Drawn c =
    let place = c.args.self.now in
    let form = c.self.inside.form.now in
    let whole = ap (drawn_row form) (ap (λ (p : PartPlace). p.cycle) c.self.view_is)
    ∙ row_on form c.in-Drawn.field-0 c.in-Drawn.is place.tape place.cycle (ap (λ (p : PartPlace). p.tape) c.self.view_is) c.requires in
    rw c.as_slice.ensures
    (subst (λ (own : List Bool). HasWanted own (get_or (rows_of place.tape) place.cycle []) c.self.inside.row.items) (ap (λ (p : PartPlace). p.own) c.self.view_is)
    (subst (λ (row : List Choice). HasWanted c.self.inside.own.items row c.self.inside.row.items) whole c.self.invariant.3))
