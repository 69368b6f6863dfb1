-- What the lines of a run are made of.
use Rattle.std.specs.Prelude.{◌≡◌, ℕ, List, map}
use Rattle.xm_model.specs.Naming.{Naming}
use Rattle.xm_trace.specs.Text.{move_label}

-- what stands before the colour of a move, by channel, and the names of the colours
pub record Labelled : Type 0 where
  pub channels : List (List ℕ)
  pub colours : List (List ℕ)

-- they are made of these names
pub record AreLabelsOf (names : Naming) (labels : Labelled) : Type 0 where
  pub channels : labels.channels ≡ map move_label names.channels
  pub colours : labels.colours ≡ names.colours
