-- Rows made from a state and a frame, and copies of rows.
use Rattle.std.proofs.Common.{◌≡◌, ℕ, zero, suc, ◌+◌, ◌<◌, ◌++◌, List, [], ◌∷◌, length, map, take, get_or, refl, ap, sym, ◌∙◌, subst, arith, Some, slice_get}
use Rattle.std.proofs.lemmas.List.{length-map, map-append, take_more}
use Rattle.std.proofs.lemmas.Option.{slice_get-map, slice_get_within}
use Rattle.xm_model.specs.Component.{Component, Content, Queue, Source, Sink, Function, Fork, Join, Switch, Merge, content_of}
use Rattle.xm_model.specs.Views.{content_at, signals_of}
use Rattle.xm_model.specs.Net.{HasPrim, Network, capacity_of}
use Rattle.xm_model.specs.Next.{FitsContent, IsFittingState}
use Rattle.xm_model.specs.declared.state.Cell.{Cell}
use Rattle.xm_model.specs.declared.state.Cell.TheVariants as cell
use Rattle.xm_model.specs.declared.state.Wire.{Wire}
use Rattle.xm_parts.proofs.Parting.{slice_get-found}
use Rattle.xm_parts.proofs.Solving.{from_items}
use Rattle.xm_parts.proofs.Stepping.{from_map, map_item, pair_is}
use Rattle.xm_parts.specs.Inner.Copied.{AreCellsOf, AreCopies, HasRoom, IsCellWith, IsCopy}
use Rattle.xm_parts.proofs.Passing.{passing_from}
use Rattle.xm_parts.specs.Partition.{prims_in, touches_at}
use Rattle.xm_parts.specs.Projection.{wire_of}
use Rattle.xm_parts.specs.Rows.{FitsPart}
use Rattle.xm_parts.specs.declared.row.PartRow.{PartRow}
use Rattle.xm_parts.specs.declared.row.PrimCell.{PrimCell}
use Rattle.xm_step.specs.Roomy.{IsRoomyCell}

pub wire_read : (wires : List Wire) (c : ℕ) (d : Wire) → c < length wires → get_or wires c d ≡ wire_of (signals_of wires) c
wire_read [] c d h = absurd (omega arith)
wire_read (x ∷ wires) zero d h = refl
wire_read (x ∷ wires) (suc c) d h = wire_read wires c d (omega arith)

pub content_read : (cells : List Cell) (i : ℕ) (d : Cell) → i < length cells → content_of (get_or cells i d) ≡ content_at cells i
content_read [] i d h = absurd (omega arith)
content_read (x ∷ cells) zero d h = refl
content_read (x ∷ cells) (suc i) d h = content_read cells i d (omega arith)

-- a cell that fits and has room is roomy
pub roomy_fit : (n : ℕ) (m : Component) (x : Cell) → FitsContent n m (content_of x) → HasRoom (capacity_of m) x → IsRoomyCell m x
roomy_fit n (Source out cs mode) x f h = tt
roomy_fit n (Sink input mode) x f h = tt
roomy_fit n (Queue input out k ps) (cell.Packets q) f h = (f.0, h)
roomy_fit n (Queue input out k ps) (cell.Pending d) f h = absurd f
roomy_fit n (Queue input out k ps) (cell.Held b) f h = absurd f
roomy_fit n (Queue input out k ps) (cell.Pref s) f h = absurd f
roomy_fit n (Queue input out k ps) cell.Nothing f h = absurd f
roomy_fit n (Function input out t) x f h = tt
roomy_fit n (Fork input a b ta tb) x f h = tt
roomy_fit n (Join a b out pass) x f h = tt
roomy_fit n (Switch input a b t) x f h = tt
roomy_fit n (Merge a b out) x f h = tt

-- a copy of a roomy cell, with room, is roomy
queue_copy : (input out k : ℕ) (ps : List ℕ) (x y : Cell) → IsRoomyCell (Queue input out k ps) y → content_of x ≡ content_of y → HasRoom k x → IsRoomyCell (Queue input out k ps) x
queue_copy input out k ps (cell.Packets q) (cell.Packets r) h e room = let same : q.items ≡ r.items = cc in (rw same h.0, room)
queue_copy input out k ps (cell.Pending d) (cell.Packets r) h e room = absurd cc
queue_copy input out k ps (cell.Held b) (cell.Packets r) h e room = absurd cc
queue_copy input out k ps (cell.Pref s) (cell.Packets r) h e room = absurd cc
queue_copy input out k ps cell.Nothing (cell.Packets r) h e room = absurd cc
queue_copy input out k ps x (cell.Pending d) h e room = absurd h
queue_copy input out k ps x (cell.Held b) h e room = absurd h
queue_copy input out k ps x (cell.Pref s) h e room = absurd h
queue_copy input out k ps x cell.Nothing h e room = absurd h

pub roomy_copy : (m : Component) (x y : Cell) → IsRoomyCell m y → content_of x ≡ content_of y → HasRoom (capacity_of m) x → IsRoomyCell m x
roomy_copy (Source out cs mode) x y h e room = tt
roomy_copy (Sink input mode) x y h e room = tt
roomy_copy (Queue input out k ps) x y h e room = queue_copy input out k ps x y h e room
roomy_copy (Function input out t) x y h e room = tt
roomy_copy (Fork input a b ta tb) x y h e room = tt
roomy_copy (Join a b out pass) x y h e room = tt
roomy_copy (Switch input a b t) x y h e room = tt
roomy_copy (Merge a b out) x y h e room = tt

-- a cell that was copied
pub made_cell : (net : Network) (i : ℕ) (m : Component) (old new : Cell) (k : ℕ) (s : Content) → HasPrim net i m → k ≡ capacity_of m → IsCopy k old new → content_of old ≡ s → IsCellWith net i s (record { prim = i; cell = new })
made_cell net i m old new k s has is copy holds = record {
  prim_is = refl;
  content_is = copy.content ∙ holds;
  room = λ n also. let same : m ≡ n = cc in subst (λ (j : ℕ). HasRoom j new) (is ∙ ap capacity_of same) copy.room;
}

module _ (net : Network) (label : ℕ → ℕ) (p : ℕ) (cells : List Cell) (made : List PrimCell) (are : AreCellsOf net (prims_in net label p) cells made) where
  found_at : (k i : ℕ) → slice_get (prims_in net label p) k ≡ Some i → (x : PrimCell) × (slice_get made k ≡ Some x)
  found_at k i at = slice_get-found made k (let h = slice_get_within (prims_in net label p) k i at in let w = are.whole in omega arith)

  pub prims_made : map (λ (x : PrimCell). x.prim) made ≡ prims_in net label p
  prims_made = from_map (λ (x : PrimCell). x.prim) made (prims_in net label p) are.whole (λ k i at. let x = found_at k i at in (x.0, x.1, (are.each k i x.0 x.1 at).prim_is))

  pub cells_made : map {B = ℕ × Content} (λ (x : PrimCell). (x.prim, content_of x.cell)) made ≡ map (λ i. (i, content_at cells i)) (prims_in net label p)
  cells_made =
      from_items {Y = ℕ × Content} (λ i. (i, content_at cells i)) (map (λ (x : PrimCell). (x.prim, content_of x.cell)) made) (prims_in net label p)
      (length-map {B = ℕ × Content} made (λ (x : PrimCell). (x.prim, content_of x.cell)) ∙ are.whole)
      (λ k i at.
      let x = found_at k i at in let is = are.each k i x.0 x.1 at in
      rw (slice_get-map {B = ℕ × Content} (λ (y : PrimCell). (y.prim, content_of y.cell)) made k, x.1) (pair_is x.0.prim i (content_of x.0.cell) (content_at cells i) is.prim_is is.content_is))

  pub roomy_made : IsFittingState net (content_at cells) → (k : ℕ) (x : PrimCell) (m : Component) → slice_get made k ≡ Some x → HasPrim net x.prim m → IsRoomyCell m x.cell
  roomy_made fitting k x m at has =
      let i = slice_get-found (prims_in net label p) k (let h = slice_get_within made k x at in let w = are.whole in omega arith) in
      let is = are.each k i.0 x at i.1 in
      let here : HasPrim net i.0 m = ap (slice_get net.prims) (sym is.prim_is) ∙ has in
      roomy_fit net.colours m x.cell (subst (λ (s : Content). FitsContent net.colours m s) (sym is.content_is) (fitting i.0 m here)) (is.room m here)

module _ (net : Network) (cells made : List PrimCell) (are : AreCopies net cells made) where
  pub copies_same : map {B = ℕ × Content} (λ (x : PrimCell). (x.prim, content_of x.cell)) made ≡ map (λ (x : PrimCell). (x.prim, content_of x.cell)) cells
  copies_same =
      from_items {Y = ℕ × Content} (λ (x : PrimCell). (x.prim, content_of x.cell)) (map (λ (x : PrimCell). (x.prim, content_of x.cell)) made) cells
      (length-map {B = ℕ × Content} made (λ (x : PrimCell). (x.prim, content_of x.cell)) ∙ are.whole)
      (λ k y at.
      let x = slice_get-found made k (let h = slice_get_within cells k y at in let w = are.whole in omega arith) in let is = are.each k x.0 y x.1 at in
      rw (slice_get-map {B = ℕ × Content} (λ (z : PrimCell). (z.prim, content_of z.cell)) made k, x.1) (pair_is x.0.prim y.prim (content_of x.0.cell) (content_of y.cell) is.prim_is is.content_is))

  pub copies_prims : (ps : List ℕ) → map (λ (x : PrimCell). x.prim) cells ≡ ps → map (λ (x : PrimCell). x.prim) made ≡ ps
  copies_prims ps e =
      from_map (λ (x : PrimCell). x.prim) made ps (are.whole ∙ sym (length-map cells (λ (x : PrimCell). x.prim)) ∙ ap length e) (λ k i at.
      let y = map_item (λ (x : PrimCell). x.prim) cells ps k i e at in
      let x = slice_get-found made k (let h = slice_get_within cells k y.0 y.1 in let w = are.whole in omega arith) in
      (x.0, x.1, (are.each k x.0 y.0 x.1 y.1).prim_is ∙ y.2))

  pub copies_roomy : ((k : ℕ) (x : PrimCell) (m : Component) → slice_get cells k ≡ Some x → HasPrim net x.prim m → IsRoomyCell m x.cell) →
      (k : ℕ) (x : PrimCell) (m : Component) → slice_get made k ≡ Some x → HasPrim net x.prim m → IsRoomyCell m x.cell
  copies_roomy roomy k x m at has =
      let y = slice_get-found cells k (let h = slice_get_within made k x at in let w = are.whole in omega arith) in
      let is = are.each k x y.0 at y.1 in
      let here : HasPrim net y.0.prim m = ap (slice_get net.prims) (sym is.prim_is) ∙ has in
      roomy_copy m x.cell y.0.cell (roomy k y.0 m y.1 here) is.content_is (is.room m here)

-- one wire more
pub wires_more : (channels : List ℕ) (wires made : List Wire) (k : ℕ) (d : Wire) → k < length channels → get_or channels k 0 < length wires → made ≡ map (wire_of (signals_of wires)) (take k channels) →
    made ++ get_or wires (get_or channels k 0) d ∷ [] ≡ map (wire_of (signals_of wires)) (take (k + 1) channels)
wires_more channels wires made k d below inside e =
    let here = wire_read wires (get_or channels k 0) d inside in
    rw (take_more channels k 0 below) (rw (map-append (wire_of (signals_of wires)) (take k channels) (get_or channels k 0 ∷ [])) (rw (e, here) refl))

-- the primitives of a row that fits a part are the net's
pub within_net : (net : Network) (label : ℕ → ℕ) (p : ℕ) (row : PartRow) → FitsPart net label p row → (k : ℕ) (x : PrimCell) → slice_get row.cells.items k ≡ Some x → x.prim < length net.prims
within_net net label p row fits k x at =
    let stands : slice_get (prims_in net label p) k ≡ Some x.prim = ap (λ (xs : List ℕ). slice_get xs k) (sym fits.prims) ∙ (rw (slice_get-map (λ (y : PrimCell). y.prim) row.cells.items k, at) refl) in
    (passing_from (touches_at net label p) (length net.prims) k x.prim stands).below
