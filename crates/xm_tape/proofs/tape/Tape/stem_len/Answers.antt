use Rattle.std.proofs.Common.{◌∙◌, ap, map, sym}
use Rattle.xm_tape.specs.Inner.Forms.{component_drawn, taped_of}
use Rattle.xm_tape.proofs.Drawing.{cycles_drawn}
use Rattle.xm_tape.proofs.tape.Tape.stem_len.Goals as goal

pub returns-in-Drawn : goal.returns-in-Drawn
returns-in-Drawn c =
    let tape = c.in-Drawn.tape in
    (cycles_drawn (map component_drawn tape.oracles.items) tape.cycles tape.seed c.args.self.now (ap taped_of (sym c.in-Drawn.is) ∙ c.self.view_is)).0
