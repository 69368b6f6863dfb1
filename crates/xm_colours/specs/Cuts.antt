-- What leastness says of switches.
use Rattle.std.specs.Prelude.{◌≡◌, ℕ, true, false, List, Bool}
use Rattle.xm_colours.specs.Family.{AreColours}
use Rattle.xm_model.specs.Component.{Switch}
use Rattle.xm_model.specs.Net.{HasPrim, IsNet, Network}
use Rattle.xm_model.specs.Membership.{IsIn}
use Rattle.xm_model.specs.Signals.{takes_a}

-- a switch's outputs have no colours but those that go there
abbrev pub SwitchesCut : Network → (ℕ → List ℕ) → Type 0
SwitchesCut net colours = (p input a b : ℕ) (to_a : List Bool) (d : ℕ) → HasPrim net p (Switch input a b to_a) →
    (IsIn (colours a) d → takes_a to_a d ≡ true) × (IsIn (colours b) d → takes_a to_a d ≡ false)

-- in the least closed family they are cut so
abbrev pub CutsHold : Type 0
CutsHold = (net : Network) (colours : ℕ → List ℕ) → IsNet net → AreColours net colours → SwitchesCut net colours
