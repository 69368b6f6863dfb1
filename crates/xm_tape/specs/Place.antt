-- Where in a tape its rows are read.
use Rattle.std.specs.Prelude.{◌≡◌, ℕ, Bool, true, List, length, Some, slice_get}
use Rattle.xm_model.specs.declared.state.Choice.{Choice}
use Rattle.xm_tape.specs.Taped.{Taped}

-- the tape, and the cycle whose row is given
pub record Place : Type 0 where
  pub tape : Taped
  pub cycle : ℕ

-- the same, and which places of a row are wanted
pub record PartPlace : Type 0 where
  pub tape : Taped
  pub cycle : ℕ
  pub own : List Bool

-- at the places that are wanted the row is the whole one
pub record HasWanted (own : List Bool) (whole row : List Choice) : Type 0 where
  pub wide : length row ≡ length whole
  pub same : (k : ℕ) → slice_get own k ≡ Some true → slice_get row k ≡ slice_get whole k
