use Rattle.std.proofs.Common.{◌+◌}
use Rattle.xm_tape.proofs.part_rows.PartRows.advance.Goals as goal

pub invariant_of-self : goal.invariant_of-self
invariant_of-self c =
    let was = c.self.invariant in
    let made = c.make_wanted-self-inside.ensures in
    (made.number (c.self.inside.cycle + 1) was.0, made.width, was.2, made.row c.self.inside.own.items (c.self.inside.cycle + 1) was.2 was.0)
