use Rattle.std.proofs.Common.{◌≡◌, take}
use Rattle.xm_tape.proofs.drawn.copy_of.Given as goal

abbrev pub invariant-loop-colour : goal.invariant-loop-colour
invariant-loop-colour l = l.copy.items ≡ take l.colour-index l.colours
