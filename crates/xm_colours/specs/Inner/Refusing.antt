-- Inner: what is missing from a set, and what a search for the first refused pair has found. No public
-- clause cites these.
use Rattle.std.specs.Prelude.{◌≡◌, ℕ, ◌<◌, ◌≤◌, true, false, List, Option, Some, None}
use Rattle.xm_colours.specs.Allowing.{AllowsAll, IsFirstRefused}
use Rattle.xm_colours.specs.Inner.Words.{holds}
use Rattle.xm_colours.specs.declared.allow.ColourFault.{ColourFault}
use Rattle.xm_model.specs.Naming.{Allowed}

-- the first set has each colour that the second has
abbrev pub IsWithin : ℕ → ℕ → Type 0
IsWithin word other = (d : ℕ) → d < 64 → holds word d ≡ true → holds other d ≡ true

-- the least colour that the first set has and the second lacks
pub record IsFirstMissing (word other d : ℕ) : Type 0 where
  pub below : d < 64
  pub has : holds word d ≡ true
  pub lacks : holds other d ≡ false
  pub first : (e : ℕ) → e < 64 → holds word e ≡ true → holds other e ≡ false → d ≤ e

-- the first refused pair, or that there is none
abbrev pub FoundFirst : (ℕ → List ℕ) → List Allowed → Option ColourFault → Type 0
FoundFirst colours allow None = AllowsAll colours allow
FoundFirst colours allow (Some fault) = IsFirstRefused colours allow fault.channel fault.colour
