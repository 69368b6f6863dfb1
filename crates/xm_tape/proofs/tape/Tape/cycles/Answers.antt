use Rattle.std.proofs.Common.{◌∙◌, ap, map, sym}
use Rattle.xm_tape.specs.Inner.Forms.{component_drawn, taped_of}
use Rattle.xm_tape.proofs.Drawing.{cycles_drawn}
use Rattle.xm_tape.proofs.Repeating.{length-rows_of}
use Rattle.xm_tape.proofs.tape.Tape.cycles.Goals as goal

pub returns-in-Drawn-clause-number : goal.returns-in-Drawn-clause-number
returns-in-Drawn-clause-number c =
    let tape = c.in-Drawn.tape in
    (cycles_drawn (map component_drawn tape.oracles.items) tape.cycles tape.seed c.args.self.now (ap taped_of (sym c.in-Drawn.is) ∙ c.self.view_is)).1

pub returns-in-Drawn-clause-rows : goal.returns-in-Drawn-clause-rows
returns-in-Drawn-clause-rows c = returns-in-Drawn-clause-number c ∙ sym (length-rows_of c.args.self.now)
