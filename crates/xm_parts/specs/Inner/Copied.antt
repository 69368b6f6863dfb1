-- Inner: cells that were copied with room for a capacity. No public clause cites these.
use Rattle.std.specs.Prelude.{◌≡◌, ◌≤◌, ℕ, List, length, Some, slice_get}
use Rattle.xm_model.specs.Component.{Component, Content, content_of}
use Rattle.xm_model.specs.Views.{content_at}
use Rattle.xm_model.specs.Net.{HasPrim, Network, capacity_of}
use Rattle.xm_model.specs.declared.state.Cell.{Cell}
use Rattle.xm_model.specs.declared.state.Cell.TheVariants as cell
use Rattle.xm_parts.specs.declared.row.PrimCell.{PrimCell}

-- packets have room for so many
abbrev pub HasRoom : ℕ → Cell → Type 0
HasRoom k (cell.Packets q) = k ≤ q.room
HasRoom k (cell.Pending d) = Unit {0}
HasRoom k (cell.Held b) = Unit {0}
HasRoom k (cell.Pref s) = Unit {0}
HasRoom k cell.Nothing = Unit {0}

pub record IsCopy (k : ℕ) (from to : Cell) : Type 0 where
  pub content : content_of to ≡ content_of from
  pub room : HasRoom k to

-- the cell of primitive i, which holds this and has room for the primitive
pub record IsCellWith (net : Network) (i : ℕ) (s : Content) (x : PrimCell) : Type 0 where
  pub prim_is : x.prim ≡ i
  pub content_is : content_of x.cell ≡ s
  pub room : (m : Component) → HasPrim net i m → HasRoom (capacity_of m) x.cell

-- the cells of these primitives, which hold what these cells do
pub record AreCellsOf (net : Network) (prims : List ℕ) (cells : List Cell) (made : List PrimCell) : Type 0 where
  pub whole : length made ≡ length prims
  pub each : (k i : ℕ) (x : PrimCell) → slice_get made k ≡ Some x → slice_get prims k ≡ Some i →
      IsCellWith net i (content_at cells i) x

-- the same cells, with room
pub record AreCopies (net : Network) (cells made : List PrimCell) : Type 0 where
  pub whole : length made ≡ length cells
  pub each : (k : ℕ) (x y : PrimCell) → slice_get made k ≡ Some x → slice_get cells k ≡ Some y →
      IsCellWith net y.prim (content_of y.cell) x
