use Rattle.std.proofs.Common.{map, take}
use Rattle.xm_colours.specs.Family.{colours_at}
use Rattle.xm_colours.specs.Inner.Refusing.{FoundFirst}
use Rattle.xm_model.specs.Naming.{allowed_of}
use Rattle.xm_colours.proofs.allow.allowed.Given as goal

abbrev pub invariant-loop-entry : goal.invariant-loop-entry
invariant-loop-entry l = FoundFirst (colours_at l.colours) (map allowed_of (take l.entry-index l.entry-items)) l.found
