use Rattle.std.proofs.Common.{◌≡◌, ◌-◌}
use Rattle.xm_tape.specs.Draws.{number_after}
use Rattle.xm_tape.proofs.draws.row_skipped.Given as goal

abbrev pub invariant-loop-o : goal.invariant-loop-o
invariant-loop-o l = number_after (l.width - l.o) l.number ≡ number_after l.width l.before
