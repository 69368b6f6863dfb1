use Rattle.xm_tape.proofs.Drawing.{number_on}
use Rattle.xm_tape.proofs.rows.make_row.Goals as goal

pub returns-in-Drawn-clause-number : goal.returns-in-Drawn-clause-number
returns-in-Drawn-clause-number c t before = number_on c.args.form.now c.in-Drawn.tape c.in-Drawn.is c.as_slice.result.now c.as_slice.ensures t c.args.number c.draw_row.result before c.draw_row.ensures.number
