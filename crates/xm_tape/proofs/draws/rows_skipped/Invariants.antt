use Rattle.std.proofs.Common.{◌≡◌, ◌-◌, ◌*◌}
use Rattle.xm_tape.specs.Draws.{number_after}
use Rattle.xm_tape.proofs.draws.rows_skipped.Given as goal

abbrev pub invariant-loop-t : goal.invariant-loop-t
invariant-loop-t l = number_after ((l.rows - l.t) * l.width) l.number ≡ number_after (l.rows * l.width) l.before
