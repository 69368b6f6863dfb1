-- Where to look for a literal among goals.
use Rattle.std.specs.Prelude.{◌≡◌, ℕ, ◌+◌, ◌*◌, ◌≤◌, List, Some, slice_get, slice_index}
use Rattle.xm_lits.specs.declared.literal.Lit.{Lit}
use Rattle.xm_lits.specs.declared.literal.Lit.TheVariants.{Dead}

-- the number of a pair of a channel and a colour that is dead; 0 for another literal
abbrev pub key_of : Lit → ℕ
key_of (Dead c d) = 64 * c + d + 1
key_of _ = 0

-- no goal stands before the place at its key
abbrev pub AreEarliest : List Lit → List ℕ → Type 0
AreEarliest goals earliest = (k : ℕ) (g : Lit) → slice_get goals k ≡ Some g → slice_index earliest (key_of g) ≤ k
