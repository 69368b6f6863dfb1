-- What differs between two rows of a part.
use Rattle.std.specs.Prelude.{◌≡◌, ◌≢◌, ℕ, ◌<◌, ◌≤◌, Bool, cond, List, length, drop, Option, Some, slice_get}
use Rattle.xm_model.specs.Component.{Component, Content, Packets, content_of}
use Rattle.xm_model.specs.Net.{HasPrim, Network, capacity_of}
use Rattle.xm_model.specs.Next.{IsFittingState, joined, next}
use Rattle.xm_model.specs.Signals.{Signals}
use Rattle.xm_model.specs.declared.state.Cell.{Cell}
use Rattle.xm_model.specs.declared.state.Cell.TheVariants as cell
use Rattle.xm_model.specs.declared.state.Wire.{Wire}
use Rattle.xm_parts.specs.Projection.{Row, projection}
use Rattle.xm_parts.specs.Rows.{IsRoomyRow, cell_in, prim_in, row_of}
use Rattle.xm_parts.specs.declared.changes.CellChange.{CellChange}
use Rattle.xm_parts.specs.declared.changes.CellChange.TheVariants as change
use Rattle.xm_parts.specs.declared.changes.Change.{Change}
use Rattle.xm_parts.specs.declared.changes.WireChange.{WireChange}
use Rattle.xm_parts.specs.declared.row.PartRow.{PartRow}
use Rattle.xm_parts.specs.declared.row.PrimCell.{PrimCell}

-- the packets without the oldest, if it leaves, and with the one that comes, if one comes
abbrev pub passed : Bool → Option ℕ → List ℕ → List ℕ
passed popped pushed ps = joined (cond popped (drop 1 ps) ps) pushed

-- at most the oldest packet has left, and at most one has come
pub record IsQueueStep (old new : List ℕ) : Type 0 where
  pub popped : Bool
  pub pushed : Option ℕ
  pub is : passed popped pushed old ≡ new

-- no queue holds this
abbrev pub IsPlain : Content → Type 0
IsPlain (Packets _) = ⊥
IsPlain _ = Unit {0}

-- a queue takes a step, and any other cell becomes any other
abbrev pub CanBecome : Content → Content → Type 0
CanBecome (Packets old) (Packets new) = IsQueueStep old new
CanBecome (Packets _) _ = ⊥
CanBecome _ new = IsPlain new

abbrev pub place_of : CellChange → ℕ
place_of (change.Queue place popped pushed) = place
place_of (change.Set place x) = place

-- what becomes of a content
abbrev pub changed : CellChange → Content → Content
changed (change.Queue place popped pushed) (Packets ps) = Packets (passed popped pushed ps)
changed (change.Queue place popped pushed) s = s
changed (change.Set place x) s = content_of x

-- a replaced cell is no queue's, before and after
abbrev pub IsPlainChange : CellChange → Content → Type 0
IsPlainChange (change.Queue place popped pushed) before = Unit {0}
IsPlainChange (change.Set place x) before = IsPlain before × IsPlain (content_of x)

-- the change at this place makes another content of the older one
pub record IsChangeOfCell (place : ℕ) (before after : Content) (c : CellChange) : Type 0 where
  pub place_is : place_of c ≡ place
  pub after_is : after ≡ changed c before
  pub differs : after ≢ before
  pub plain : IsPlainChange c before

-- at its place the change makes the newer content of the older, which is another
pub record IsCellChange (old new : List (ℕ × Content)) (c : CellChange) : Type 0 where
  pub prim : ℕ
  pub before : Content
  pub was : slice_get old (place_of c) ≡ Some (prim, before)
  pub is : slice_get new (place_of c) ≡ Some (prim, changed c before)
  pub differs : changed c before ≢ before
  pub plain : IsPlainChange c before

-- of the first n contents these have changed, each once
pub record AreCellChanges (old new : List (ℕ × Content)) (n : ℕ) (cs : List CellChange) : Type 0 where
  pub each : (k : ℕ) (c : CellChange) → slice_get cs k ≡ Some c → IsCellChange old new c
  pub below : (k : ℕ) (c : CellChange) → slice_get cs k ≡ Some c → place_of c < n
  pub once : (j k : ℕ) (c d : CellChange) → slice_get cs j ≡ Some c → slice_get cs k ≡ Some d →
      place_of c ≡ place_of d → j ≡ k
  pub rest : (i : ℕ) → i < n → ((k : ℕ) (c : CellChange) → slice_get cs k ≡ Some c → place_of c ≢ i) →
      slice_get new i ≡ slice_get old i

-- at its place the wire has come, and another one was there
pub record IsWireChange (old new : List Wire) (c : WireChange) : Type 0 where
  pub is : slice_get new c.place ≡ Some c.wire
  pub was : slice_get old c.place ≢ Some c.wire

-- of the first n wires these have changed, each once
pub record AreWireChanges (old new : List Wire) (n : ℕ) (cs : List WireChange) : Type 0 where
  pub each : (k : ℕ) (c : WireChange) → slice_get cs k ≡ Some c → IsWireChange old new c
  pub below : (k : ℕ) (c : WireChange) → slice_get cs k ≡ Some c → c.place < n
  pub once : (j k : ℕ) (c d : WireChange) → slice_get cs j ≡ Some c → slice_get cs k ≡ Some d →
      c.place ≡ d.place → j ≡ k
  pub rest : (i : ℕ) → i < n → ((k : ℕ) (c : WireChange) → slice_get cs k ≡ Some c → c.place ≢ i) →
      slice_get new i ≡ slice_get old i

-- the change makes the newer row of the older, and has exactly the cells and the wires that differ
pub record IsChange (old new : Row) (c : Change) : Type 0 where
  pub whole_cells : length new.cells ≡ length old.cells
  pub whole_wires : length new.wires ≡ length old.wires
  pub cells : AreCellChanges old.cells new.cells (length old.cells) c.cells.items
  pub wires : AreWireChanges old.wires new.wires (length old.wires) c.wires.items

-- the contents are of the same primitives, and each of the older can become that of the newer
pub record CanChangeCells (old new : List (ℕ × Content)) : Type 0 where
  pub whole : length new ≡ length old
  pub prims : (k i j : ℕ) (s t : Content) → slice_get old k ≡ Some (i, s) → slice_get new k ≡ Some (j, t) → i ≡ j
  pub each : (k i j : ℕ) (s t : Content) → slice_get old k ≡ Some (i, s) → slice_get new k ≡ Some (j, t) →
      CanBecome s t

-- the rows are of one part, and the cells of the older can become those of the newer
pub record CanChange (old new : Row) : Type 0 where
  pub cells : CanChangeCells old.cells new.cells
  pub wires : length new.wires ≡ length old.wires

-- a queue's cell has room for what it becomes
abbrev pub HasRoomFor : CellChange → Cell → Type 0
HasRoomFor (change.Queue place popped pushed) (cell.Packets q) = length (passed popped pushed q.items) ≤ q.room
HasRoomFor _ x = Unit {0}

-- each has
abbrev pub HasRooms : List PrimCell → List CellChange → Type 0
HasRooms cells cs = (k : ℕ) (c : CellChange) → slice_get cs k ≡ Some c → HasRoomFor c (cell_in cells (place_of c))

-- the room of a queue's cell
abbrev pub room_of : Cell → ℕ
room_of (cell.Packets q) = q.room
room_of _ = 0

-- the cell is what the change makes of it, in the room that it had
pub record IsApplied (c : CellChange) (old new : Cell) : Type 0 where
  pub content : content_of new ≡ changed c (content_of old)
  pub room : room_of new ≡ room_of old

-- each change is at a place of its own, and can be made there
pub record CanApplyAll (cells : List PrimCell) (cs : List CellChange) : Type 0 where
  pub below : (k : ℕ) (c : CellChange) → slice_get cs k ≡ Some c → place_of c < length cells
  pub once : (j k : ℕ) (c d : CellChange) → slice_get cs j ≡ Some c → slice_get cs k ≡ Some d →
      place_of c ≡ place_of d → j ≡ k
  pub plain : (k : ℕ) (c : CellChange) → slice_get cs k ≡ Some c →
      IsPlainChange c (content_of (cell_in cells (place_of c)))
  pub rooms : HasRooms cells cs

-- the changes were made, and nothing else
pub record AllApply (old new : List PrimCell) (cs : List CellChange) : Type 0 where
  pub whole : length new ≡ length old
  pub prims : (k : ℕ) → prim_in new k ≡ prim_in old k
  pub each : (k : ℕ) (c : CellChange) → slice_get cs k ≡ Some c →
      IsApplied c (cell_in old (place_of c)) (cell_in new (place_of c))
  pub rest : (i : ℕ) → ((k : ℕ) (c : CellChange) → slice_get cs k ≡ Some c → place_of c ≢ i) →
      cell_in new i ≡ cell_in old i

-- the wires have come, and nothing else
pub record WiresApply (old new : List Wire) (cs : List WireChange) : Type 0 where
  pub whole : length new ≡ length old
  pub each : ((j k : ℕ) (c d : WireChange) → slice_get cs j ≡ Some c → slice_get cs k ≡ Some d →
      c.place ≡ d.place → j ≡ k) → (k : ℕ) (c : WireChange) → slice_get cs k ≡ Some c →
      slice_get new c.place ≡ Some c.wire
  pub rest : (i : ℕ) → ((k : ℕ) (c : WireChange) → slice_get cs k ≡ Some c → c.place ≢ i) →
      slice_get new i ≡ slice_get old i

-- no queue of the row has more packets than its capacity
abbrev pub IsWithinCapacities : Network → Row → Type 0
IsWithinCapacities net row =
    (k i : ℕ) (m : Component) (ps : List ℕ) → slice_get row.cells k ≡ Some (i, Packets ps) → HasPrim net i m →
    length ps ≤ capacity_of m

-- what a part has of a fitting state can be changed to what it has one cycle on
abbrev pub ChangeLaw : Type 0
ChangeLaw =
    (net : Network) (label : ℕ → ℕ) (p : ℕ) (s : ℕ → Content) (φ ψ : Signals) → IsFittingState net s →
    CanChange (projection net label p s φ) (projection net label p (next net s φ) ψ)

-- a roomy row has room for its change to a row within the capacities
abbrev pub RoomLaw : Type 0
RoomLaw =
    (net : Network) (label : ℕ → ℕ) (p : ℕ) (row : PartRow) (new : Row) (c : Change) → IsRoomyRow net label p row →
    IsChange (row_of row) new c → IsWithinCapacities net new → HasRooms row.cells.items c.cells.items

-- what a part has of a fitting state is within the capacities
abbrev pub CapacityLaw : Type 0
CapacityLaw =
    (net : Network) (label : ℕ → ℕ) (p : ℕ) (s : ℕ → Content) (φ : Signals) → IsFittingState net s →
    IsWithinCapacities net (projection net label p s φ)
