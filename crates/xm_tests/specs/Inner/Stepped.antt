-- Inner: the rows of all parts of a net at one cycle. No public clause cites this.
use Rattle.std.specs.Prelude.{◌≡◌, ℕ, ◌<◌, List, Option, Some, length, slice_get}
use Rattle.xm_model.specs.Component.{Content}
use Rattle.xm_model.specs.Frame.{IsFrame}
use Rattle.xm_model.specs.Net.{Network}
use Rattle.xm_model.specs.Next.{IsFittingState}
use Rattle.xm_model.specs.Run.{ChoicesFit}
use Rattle.xm_model.specs.Signals.{Signals}
use Rattle.xm_model.specs.Views.{content_at}
use Rattle.xm_model.specs.declared.state.Cell.{Cell}
use Rattle.xm_model.specs.declared.state.Choice.{Choice}
use Rattle.xm_model.specs.declared.state.Wire.{Wire}
use Rattle.xm_parts.specs.Far.{AreFarFrom}
use Rattle.xm_parts.specs.Projection.{projection}
use Rattle.xm_parts.specs.Rows.{IsRoomyRow, row_of}
use Rattle.xm_parts.specs.declared.row.PartRow.{PartRow}
use Rattle.xm_step.specs.Roomy.{IsRoomy}

-- each part's row is what it has of this state and this frame
pub record AreRowsOf (net : Network) (label : ℕ → ℕ) (count : ℕ) (rows : List PartRow) (s : ℕ → Content)
    (φ : Signals) : Type 0 where
  pub whole : length rows ≡ count
  pub are : (p : ℕ) (row : PartRow) → slice_get rows p ≡ Some row → row_of row ≡ projection net label p s φ
  pub roomy : (p : ℕ) (row : PartRow) → slice_get rows p ≡ Some row → IsRoomyRow net label p row

-- they are of one cycle of the net, from a fitting state
pub record AreRows (net : Network) (label : ℕ → ℕ) (count : ℕ) (rows : List PartRow) : Type 0 where
  pub state : ℕ → Content
  pub choices : ℕ → Choice
  pub frame : Signals
  pub is_frame : IsFrame net state choices frame
  pub fitting : IsFittingState net state
  pub fit : ChoicesFit net choices
  pub of : AreRowsOf net label count rows state frame

-- the far moves of part p in the first n of these parts are those of the frame
abbrev pub AreSetFrom : Network → (ℕ → ℕ) → ℕ → List ℕ → ℕ → Signals → List (Option ℕ) → Type 0
AreSetFrom net label p near n φ moves =
    (k q : ℕ) → k < n → slice_get near k ≡ Some q → AreFarFrom net label p q φ moves

-- the state and the wires are those of a run under way
pub record IsUnderway (net : Network) (cells : List Cell) (frame : List Wire) : Type 0 where
  pub roomy : IsRoomy net.prims cells
  pub fitting : IsFittingState net (content_at cells)
  pub wires : length frame ≡ net.channels
