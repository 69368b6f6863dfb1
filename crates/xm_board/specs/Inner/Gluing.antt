-- The first rows of all parts, as what they have of one state and one frame.
use Rattle.std.specs.Prelude.{◌≡◌, ℕ, List, Some, slice_get}
use Rattle.xm_board.specs.declared.row_log.RowLog.{RowLog}
use Rattle.xm_model.specs.Component.{Content}
use Rattle.xm_model.specs.Net.{Network}
use Rattle.xm_model.specs.Signals.{Signals}
use Rattle.xm_parts.specs.Gluing.{FitCells}
use Rattle.xm_parts.specs.Projection.{projection}
use Rattle.xm_parts.specs.Rows.{FitsPart, row_of}

-- each part's first row has the part's size, and its cells fit
pub record HaveFitRows (net : Network) (label : ℕ → ℕ) (logs : List RowLog) : Type 0 where
  pub fits : (p : ℕ) (log : RowLog) → slice_get logs p ≡ Some log → FitsPart net label p log.base
  pub cells : (p : ℕ) (log : RowLog) → slice_get logs p ≡ Some log → FitCells net log.base.cells.items

-- each part's first row is what the part has of this state and this frame
abbrev pub AreRowsOf : Network → (ℕ → ℕ) → (ℕ → Content) → Signals → List RowLog → Type 0
AreRowsOf net label s φ logs =
    (p : ℕ) (log : RowLog) → slice_get logs p ≡ Some log → row_of log.base ≡ projection net label p s φ
