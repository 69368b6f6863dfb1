-- A state and a frame put together from rows of parts.
use Rattle.std.specs.Prelude.{◌≡◌, ◌≤◌, ◌<◌, ℕ, true, List, length, Some, slice_get}
use Rattle.xm_design.specs.Designed.{Designed, IsDesigned}
use Rattle.xm_model.specs.Component.{Component, Content, content_of}
use Rattle.xm_model.specs.Net.{HasPrim, IsNet, Network}
use Rattle.xm_model.specs.Next.{FitsContent}
use Rattle.xm_model.specs.Signals.{Signals}
use Rattle.xm_model.specs.declared.state.Cell.{Cell}
use Rattle.xm_model.specs.declared.state.Cell.TheVariants as cell
use Rattle.xm_model.specs.declared.state.Wire.{Wire}
use Rattle.xm_parts.specs.Partition.{touches_at}
use Rattle.xm_parts.specs.Projection.{wire_of}
use Rattle.xm_parts.specs.declared.row.PrimCell.{PrimCell}
use Rattle.xm_step.specs.Roomy.{IsRoomy}

-- the contents and the wires that were handed in so far, by number, and the cycle
pub record Glued : Type 0 where
  pub design : Designed
  pub cycle : ℕ
  pub contents : List Content
  pub wires : List Wire

pub record IsGlue (it : Designed) (cells : List Cell) (wires : List Wire) : Type 0 where
  pub designed : IsDesigned it
  pub roomy : IsRoomy it.net.prims cells
  pub whole : length wires ≡ it.net.channels

-- the contents of the primitives of part p are those of the state, and its wires those of the frame
pub record HoldsPart (net : Network) (label : ℕ → ℕ) (p : ℕ) (s : ℕ → Content) (φ : Signals) (contents : List Content)
    (wires : List Wire) : Type 0 where
  pub contents_are : (i : ℕ) → touches_at net label p i ≡ true → slice_get contents i ≡ Some (s i)
  pub wires_are : (c : ℕ) → c < net.channels → label c ≡ p → slice_get wires c ≡ Some (wire_of φ c)

-- all are
pub record HoldsAll (net : Network) (s : ℕ → Content) (φ : Signals) (contents : List Content)
    (wires : List Wire) : Type 0 where
  pub contents_are : (i : ℕ) → i < length net.prims → slice_get contents i ≡ Some (s i)
  pub wires_are : (c : ℕ) → c < net.channels → slice_get wires c ≡ Some (wire_of φ c)

-- each cell of a row fits its primitive
abbrev pub FitCells : Network → List PrimCell → Type 0
FitCells net cells = (k : ℕ) (x : PrimCell) (m : Component) → slice_get cells k ≡ Some x → HasPrim net x.prim m →
    FitsContent net.colours m (content_of x.cell)

-- the cells of a row are those of the state
abbrev pub ShowsCells : List PrimCell → (ℕ → Content) → Type 0
ShowsCells row s = (k : ℕ) (x : PrimCell) → slice_get row k ≡ Some x → content_of x.cell ≡ s x.prim

-- the wires of these channels are those of the frame
abbrev pub ShowsWires : List ℕ → List Wire → Signals → Type 0
ShowsWires channels wires φ = (k c : ℕ) → slice_get channels k ≡ Some c → slice_get wires k ≡ Some (wire_of φ c)

-- one cell can be made to hold what another does
abbrev pub CanHold : Cell → Cell → Type 0
CanHold (cell.Packets q) (cell.Packets r) = length q.items ≤ r.room
CanHold (cell.Packets q) (cell.Pending d) = ⊥
CanHold (cell.Packets q) (cell.Held b) = ⊥
CanHold (cell.Packets q) (cell.Pref s) = ⊥
CanHold (cell.Packets q) cell.Nothing = ⊥
CanHold (cell.Pending d) to = Unit {0}
CanHold (cell.Held b) to = Unit {0}
CanHold (cell.Pref s) to = Unit {0}
CanHold cell.Nothing to = Unit {0}

-- what holds of every part of a partition holds of the net
abbrev pub GlueLaw : Type 0
GlueLaw =
    (net : Network) (label : ℕ → ℕ) (count : ℕ) (s : ℕ → Content) (φ : Signals) (contents : List Content)
    (wires : List Wire) → IsNet net →
    ((c : ℕ) → c < net.channels → label c < count) → ((p : ℕ) → p < count → HoldsPart net label p s φ contents wires) →
    HoldsAll net s φ contents wires
