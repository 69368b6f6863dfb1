-- The rows of the code, and when a row has a part's shape and room for its step.
use Rattle.std.specs.Prelude.{◌≡◌, ℕ, true, false, List, length, map, ◌++◌, Option, Some, None, slice_get}
use Rattle.xm_model.specs.Component.{Component, Content, content_of}
use Rattle.xm_model.specs.Views.{signals_of}
use Rattle.xm_model.specs.Net.{HasPrim, Network}
use Rattle.xm_model.specs.Signals.{Signals}
use Rattle.xm_model.specs.declared.state.Cell.{Cell}
use Rattle.xm_model.specs.declared.state.Cell.TheVariants as cell
use Rattle.xm_model.specs.declared.state.Wire.{Wire}
use Rattle.xm_parts.specs.Partition.{channels_in, prims_in}
use Rattle.xm_parts.specs.Projection.{Row}
use Rattle.xm_parts.specs.declared.row.PartRow.{PartRow}
use Rattle.xm_parts.specs.declared.row.PrimCell.{PrimCell}
use Rattle.xm_step.specs.Roomy.{IsRoomyCell}

-- the contents of cells, each with its primitive
abbrev pub contents_in : List PrimCell → List (ℕ × Content)
contents_in cells = map (λ (x : PrimCell). (x.prim, content_of x.cell)) cells

-- the row of the code without its rooms
abbrev pub row_of : PartRow → Row
row_of row = record {
  cells = contents_in row.cells.items;
  wires = row.wires.items;
}

-- the row has part p's primitives and as many wires as it has channels
pub record FitsPart (net : Network) (label : ℕ → ℕ) (p : ℕ) (row : PartRow) : Type 0 where
  pub prims : map (λ (x : PrimCell). x.prim) row.cells.items ≡ prims_in net label p
  pub wires : length row.wires.items ≡ length (channels_in net label p)

-- and each queue has at most its capacity, and room for it
pub record IsRoomyRow (net : Network) (label : ℕ → ℕ) (p : ℕ) (row : PartRow) : Type 0 where
  pub fits : FitsPart net label p row
  pub roomy : (k : ℕ) (x : PrimCell) (m : Component) → slice_get row.cells.items k ≡ Some x → HasPrim net x.prim m →
      IsRoomyCell m x.cell

-- the wire of a far channel on which this moves
abbrev pub far_wire : Option ℕ → Wire
far_wire None = record { offer = None; ready = false }
far_wire (Some d) = record { offer = Some d; ready = true }

-- what a part sees of a cycle: the wires of its channels, and behind them what moves on its far channels
abbrev pub part_signals : List Wire → List (Option ℕ) → Signals
part_signals wires far = signals_of (wires ++ map far_wire far)

-- the cell at a place of a row, and the primitive that has it
abbrev pub cell_or : Option PrimCell → Cell
cell_or None = cell.Nothing
cell_or (Some x) = x.cell

abbrev pub prim_or : Option PrimCell → ℕ
prim_or None = 0
prim_or (Some x) = x.prim

abbrev pub cell_in : List PrimCell → ℕ → Cell
cell_in cells k = cell_or (slice_get cells k)

abbrev pub prim_in : List PrimCell → ℕ → ℕ
prim_in cells k = prim_or (slice_get cells k)
