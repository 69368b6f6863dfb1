use Rattle.std.proofs.Common.{◌≡◌, ◌<◌, ◌≤◌, ℕ, Some, get_or, slice_get}
use Rattle.xm_lits.specs.declared.literal.Lit.{Lit}
use Rattle.xm_search.specs.Inner.Places.{key_of}
use Rattle.xm_search.proofs.places.note_all.Given as goal

abbrev pub invariant-loop-k : goal.invariant-loop-k
invariant-loop-k l = (j : ℕ) (g : Lit) → j < l.k → slice_get l.goals j ≡ Some g → get_or l.earliest (key_of g) 0 ≤ j
