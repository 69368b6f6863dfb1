use Rattle.std.proofs.Common.{◌≡◌, length}
use Rattle.xm_colours.specs.Inner.Words.{set_below}
use Rattle.xm_colours.proofs.word.count_below.Given as goal

abbrev pub invariant-loop-colour : goal.invariant-loop-colour
invariant-loop-colour l = l.count ≡ length (set_below l.word l.colour)
