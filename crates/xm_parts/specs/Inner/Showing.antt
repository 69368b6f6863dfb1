-- Inner: the state that the cells of a part show. No public clause cites these.
use Rattle.std.specs.Prelude.{◌≡◌, ℕ, List, Some, slice_get}
use Rattle.xm_model.specs.Component.{Content, content_of}
use Rattle.xm_model.specs.Net.{Network}
use Rattle.xm_parts.specs.Partition.{prims_in}
use Rattle.xm_parts.specs.Rows.{cell_in}
use Rattle.xm_parts.specs.declared.row.PrimCell.{PrimCell}

-- the cells hold what the part's primitives hold in the state
pub record ShowsState (net : Network) (label : ℕ → ℕ) (p : ℕ) (cells : List PrimCell) (s : ℕ → Content) : Type 0 where
  pub at : (k i : ℕ) → slice_get (prims_in net label p) k ≡ Some i → content_of (cell_in cells k) ≡ s i
