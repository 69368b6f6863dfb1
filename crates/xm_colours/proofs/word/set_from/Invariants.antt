use Rattle.std.proofs.Common.{◌≡◌, ◌↔◌, ℕ, ◌<◌, true, take}
use Rattle.xm_colours.specs.Inner.Words.{holds}
use Rattle.xm_model.specs.Membership.{IsIn}
use Rattle.xm_colours.proofs.word.set_from.Given as goal

abbrev pub invariant-loop-colour : goal.invariant-loop-colour
invariant-loop-colour l = (d : ℕ) → d < 64 → (holds l.word d ≡ true) ↔ IsIn (take l.colour-index l.colours) d
