-- The order in which the search takes its goals.
use Rattle.std.specs.Prelude.{◌≡◌, ℕ, List, [], ◌∷◌, ◌++◌, map, Option, Some, None, slice_get}
use Rattle.std.specs.List.{range_with_len}
use Rattle.xm_colours.specs.Family.{colours_at}
use Rattle.xm_design.specs.Designed.{Designed}
use Rattle.xm_lits.specs.declared.literal.Lit.{Lit}
use Rattle.xm_lits.specs.declared.literal.Lit.TheVariants.{Dead}
use Rattle.xm_model.specs.Component.{Component}
use Rattle.xm_model.specs.Net.{Network, outputs, targets}
use Rattle.xm_search.specs.Walk.{IsLeavingOrder}

abbrev pub outputs_of : Option Component → List ℕ
outputs_of None = []
outputs_of (Some m) = outputs m

-- the outputs of the one primitive that is listed
abbrev pub outputs_of_one : Network → List ℕ → List ℕ
outputs_of_one net [] = []
outputs_of_one net (p ∷ []) = outputs_of (slice_get net.prims p)
outputs_of_one net (p ∷ q ∷ ps) = []

-- the channels that come next behind a channel: the outputs of the primitive that takes from it, in port order
abbrev pub onward : Network → ℕ → List ℕ
onward net c = outputs_of_one net (targets net.prims c)

-- that each pair of these channels is dead, by colour
abbrev pub goals_of : (ℕ → List ℕ) → List ℕ → List Lit
goals_of colours [] = []
goals_of colours (c ∷ cs) = map (λ d. Dead c d) (colours c) ++ goals_of colours cs

-- the channels in the order in which a walk from each channel in turn leaves them, with the colours of each
pub record IsGoalOrder (it : Designed) (lits : List Lit) : Type 0 where
  pub channels : List ℕ
  pub leaving : IsLeavingOrder (onward it.net) (range_with_len 0 it.net.channels) channels
  pub goals : lits ≡ goals_of (colours_at it.colours) channels
