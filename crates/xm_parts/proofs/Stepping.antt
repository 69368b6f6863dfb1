-- The step of a part: its cells, and the row that comes of them.
use Rattle.std.proofs.Common.{◌≡◌, ℕ, zero, suc, ◌<◌, true, false, List, [], ◌∷◌, length, map, refl, ap, sym, ◌∙◌, subst, arith, Some, slice_get}
use Rattle.std.specs.Prelude.{Option}
use Rattle.std.proofs.lemmas.List.{length-map}
use Rattle.std.proofs.lemmas.Option.{slice_get-map, slice_get_within}
use Rattle.xm_model.specs.Component.{Component, Content, content_of}
use Rattle.xm_model.specs.Lemmas.Local.{IsPort}
use Rattle.xm_model.specs.Net.{HasPrim, IsNet, Network}
use Rattle.xm_model.specs.Next.{content_after, next}
use Rattle.xm_model.specs.Signals.{Signals}
use Rattle.xm_model.specs.declared.state.Cell.{Cell}
use Rattle.xm_model.specs.declared.state.Wire.{Wire}
use Rattle.xm_parts.proofs.Parting.{slice_get-found}
use Rattle.xm_parts.proofs.Passing.{passing_from}
use Rattle.xm_parts.proofs.Solving.{from_items}
use Rattle.xm_parts.proofs.Viewing.{content_here, own_here, place_here, roomy_from, roomy_renamed}
use Rattle.xm_parts.specs.Inner.Going.{AllGoOn, CanGoOn, HasPlace}
use Rattle.xm_parts.specs.Kept.{AreLocalsOf, port_place, renamed}
use Rattle.xm_parts.specs.Inner.Showing.{ShowsState}
use Rattle.xm_parts.specs.Partition.{IsPartition, channels_in, is_queue, prims_in, touches_at}
use Rattle.xm_parts.specs.Projection.{IsCycle, Row, projection, wire_of}
use Rattle.xm_parts.specs.Rows.{FitsPart, IsRoomyRow, cell_in, cell_or, part_signals, prim_or, row_of}
use Rattle.xm_parts.specs.declared.row.PartRow.{PartRow}
use Rattle.xm_parts.specs.declared.row.PrimCell.{PrimCell}
use Rattle.xm_step.specs.Roomy.{IsRoomyCell}

-- the item whose image stands there
pub map_item : {X Y : Type 0} (f : X → Y) (xs : List X) (ys : List Y) (k : ℕ) (y : Y) → map f xs ≡ ys → slice_get ys k ≡ Some y → (x : X) × (slice_get xs k ≡ Some x) × (f x ≡ y)
map_item f [] [] k y e at = absurd cc
map_item f [] (z ∷ ys) k y e at = absurd cc
map_item f (x ∷ xs) [] k y e at = absurd cc
map_item f (x ∷ xs) (z ∷ ys) zero y e at = (x, refl, cc)
map_item f (x ∷ xs) (z ∷ ys) (suc k) y e at = let rest : map f xs ≡ ys = cc in map_item f xs ys k y rest at

abbrev pub pairing : ℕ → Content → ℕ × Content
pairing a x = (a, x)

pub pair_is : (a b : ℕ) (x y : Content) → a ≡ b → x ≡ y → Some (pairing a x) ≡ Some (pairing b y)
pair_is a b x y e f = ap Some (ap (λ (k : ℕ). pairing k x) e ∙ ap (pairing b) f)

pub from_map : {X Y : Type 0} (f : X → Y) (xs : List X) (ys : List Y) → length xs ≡ length ys → ((k : ℕ) (y : Y) → slice_get ys k ≡ Some y → (x : X) × (slice_get xs k ≡ Some x) × (f x ≡ y)) → map f xs ≡ ys
from_map f [] [] e h = refl
from_map f [] (y ∷ ys) e h = absurd (omega arith)
from_map f (x ∷ xs) [] e h = absurd (omega arith)
from_map f (x ∷ xs) (y ∷ ys) e h =
    let found = h zero y refl in
    let here : f x ≡ y = (let same : x ≡ found.0 = (let at = found.1 in cc) in ap f same ∙ found.2) in
    let rest = from_map f xs ys (omega arith) (λ k z at. h (suc k) z at) in cc

module _ (net : Network) (is_net : IsNet net) (label : ℕ → ℕ) (partition : IsPartition net label) (p : ℕ) where
  -- the cell at a place of a row of the part
  pub record CellAt (row : PartRow) (k i : ℕ) : Type 0 where
    pub item : PrimCell
    pub stands : slice_get row.cells.items k ≡ Some item
    pub prim_is : item.prim ≡ i

  pub cell_at : (row : PartRow) → FitsPart net label p row → (k i : ℕ) → slice_get (prims_in net label p) k ≡ Some i → CellAt row k i
  cell_at row fits k i at =
      let found = map_item (λ (x : PrimCell). x.prim) row.cells.items (prims_in net label p) k i fits.prims at in
      record { item = found.0; stands = found.1; prim_is = found.2 }

  pub cells_whole : (row : PartRow) → FitsPart net label p row → length row.cells.items ≡ length (prims_in net label p)
  cells_whole row fits = sym (length-map row.cells.items (λ (x : PrimCell). x.prim)) ∙ ap length fits.prims

  pub roomy_at : (row : PartRow) → IsRoomyRow net label p row → (k i : ℕ) (m : Component) → slice_get (prims_in net label p) k ≡ Some i → HasPrim net i m → IsRoomyCell m (cell_in row.cells.items k)
  roomy_at row is k i m at has =
      let x = cell_at row is.fits k i at in
      let here : HasPrim net x.item.prim m = ap (slice_get net.prims) x.prim_is ∙ has in
      subst (λ (y : Cell). IsRoomyCell m y) (sym (ap cell_or x.stands)) (is.roomy k x.item m x.stands here)

  -- what the row holds
  pub holds_at : (cells : List PrimCell) (s : ℕ → Content) → map {B = ℕ × Content} (λ (x : PrimCell). (x.prim, content_of x.cell)) cells ≡ map (λ i. (i, s i)) (prims_in net label p) →
      (k i : ℕ) → slice_get (prims_in net label p) k ≡ Some i → content_of (cell_in cells k) ≡ s i
  holds_at cells s e k i at =
      let image : slice_get (map {B = ℕ × Content} (λ j. (j, s j)) (prims_in net label p)) k ≡ Some (i, s i) = rw (slice_get-map {B = ℕ × Content} (λ j. (j, s j)) (prims_in net label p) k, at) refl in
      let found = map_item {Y = ℕ × Content} (λ (x : PrimCell). (x.prim, content_of x.cell)) cells (map (λ j. (j, s j)) (prims_in net label p)) k (i, s i) e image in
      ap (λ (y : Cell). content_of y) (ap cell_or found.1) ∙ ap (λ x. x.1) found.2

  module _ (locals : List Component) (are : AreLocalsOf net label p locals) where
    -- the primitive of the net at a place of the part
    pub record LocalAt (k : ℕ) (m : Component) : Type 0 where
      pub place : ℕ
      pub prim : Component
      pub stands : slice_get (prims_in net label p) k ≡ Some place
      pub has : HasPrim net place prim
      pub touch : touches_at net label p place ≡ true
      pub same : renamed (port_place net label p place) prim ≡ m

    pub local_at : (k : ℕ) (m : Component) → slice_get locals k ≡ Some m → LocalAt k m
    local_at k m at =
        let inside = slice_get_within locals k m at in
        let i = slice_get-found (prims_in net label p) k (let w = are.whole in omega arith) in
        let is = passing_from (touches_at net label p) (length net.prims) k i.0 i.1 in
        let found = slice_get-found net.prims i.0 is.below in
        let there = are.each k i.0 found.0 i.1 found.1 in
        record { place = i.0; prim = found.0; stands = i.1; has = found.1; touch = is.passes; same = cc }

    module _ (old out : PartRow) (far : List (Option ℕ)) (at : IsCycle net label p (row_of old) far) where
      wires_are : old.wires.items ≡ map (wire_of at.frame) (channels_in net label p)
      wires_are = ap (λ (r : Row). r.wires) at.row_is

      held : (k i : ℕ) → slice_get (prims_in net label p) k ≡ Some i → content_of (cell_in old.cells.items k) ≡ at.state i
      held = holds_at old.cells.items at.state (ap (λ (r : Row). r.cells) at.row_is)

      pub can_go : IsRoomyRow net label p old → IsRoomyRow net label p out → CanGoOn locals old.cells.items out.cells.items (part_signals old.wires.items far) (length old.wires.items)
      can_go old_roomy out_roomy = record {
        from_whole = cells_whole old old_roomy.fits ∙ sym are.whole;
        before_whole = cells_whole out out_roomy.fits ∙ sym are.whole;
        from_roomy = λ k m there. let l = local_at k m there in subst (λ (x : Component). IsRoomyCell x (cell_in old.cells.items k)) l.same (roomy_renamed (port_place net label p l.place) l.prim (cell_in old.cells.items k) (roomy_at old old_roomy k l.place l.prim l.stands l.has));
        before_roomy = λ k m there. let l = local_at k m there in subst (λ (x : Component). IsRoomyCell x (cell_in out.cells.items k)) l.same (roomy_renamed (port_place net label p l.place) l.prim (cell_in out.cells.items k) (roomy_at out out_roomy k l.place l.prim l.stands l.has));
        has_place = λ k m there. let l = local_at k m there in
            subst (λ (x : Component). HasPlace x (cell_in old.cells.items k) (part_signals old.wires.items far)) l.same
            (place_here net is_net label partition p at.frame old.wires.items far wires_are at.far_is l.place l.prim (cell_in old.cells.items k) at.state at.choices at.is_frame l.has l.touch (held k l.place l.stands));
        own = λ k m there. let l = local_at k m there in
            subst (λ (x : Component). is_queue x ≡ false → (c : ℕ) → IsPort x c → c < length old.wires.items) l.same
            (own_here net is_net label partition p at.frame old.wires.items far wires_are at.far_is l.place l.prim l.has l.touch);
      }

      pub shows_next : (after : List PrimCell) → AllGoOn locals old.cells.items out.cells.items after (part_signals old.wires.items far) → ShowsState net label p after (next net at.state at.frame)
      shows_next after gone = record {
        at = λ k i stands.
            let is = passing_from (touches_at net label p) (length net.prims) k i stands in
            let found = slice_get-found net.prims i is.below in
            let m = found.0 in let has : HasPrim net i m = found.1 in
            let went = gone.gone k (renamed (port_place net label p i) m) (are.each k i m stands has) in
            went.content
            ∙ ap (λ (x : Content). content_after (renamed (port_place net label p i) m) x (part_signals old.wires.items far)) (held k i stands)
            ∙ content_here net is_net label partition p at.frame old.wires.items far wires_are at.far_is i m (at.state i) has is.passes
            ∙ rw has refl;
      }

    -- the row after the step
    module _ (old : List PrimCell) (out : PartRow) (fits : FitsPart net label p out) (after : List PrimCell) (ψ : Signals) (gone : AllGoOn locals old out.cells.items after ψ) where
      after_at : (k i : ℕ) → slice_get (prims_in net label p) k ≡ Some i → (x : PrimCell) × (slice_get after k ≡ Some x) × (x.prim ≡ i)
      after_at k i at =
          let whole = cells_whole out fits in let same = gone.whole in
          let found = slice_get-found after k (let h = slice_get_within (prims_in net label p) k i at in omega arith) in
          let before = cell_at out fits k i at in
          (found.0, found.1, sym (ap prim_or found.1) ∙ gone.prims k ∙ ap prim_or before.stands ∙ before.prim_is)

      pub prims_after : map (λ (x : PrimCell). x.prim) after ≡ prims_in net label p
      prims_after =
          from_map (λ (x : PrimCell). x.prim) after (prims_in net label p) (gone.whole ∙ cells_whole out fits) after_at

      pub cells_after : (s : ℕ → Content) → ShowsState net label p after s → map {B = ℕ × Content} (λ (x : PrimCell). (x.prim, content_of x.cell)) after ≡ map (λ i. (i, s i)) (prims_in net label p)
      cells_after s shows =
          from_items {Y = ℕ × Content} (λ i. (i, s i)) (map (λ (x : PrimCell). (x.prim, content_of x.cell)) after) (prims_in net label p)
          (length-map {B = ℕ × Content} after (λ (x : PrimCell). (x.prim, content_of x.cell)) ∙ gone.whole ∙ cells_whole out fits)
          (λ k i at.
          let x = after_at k i at in
          let content : content_of x.0.cell ≡ s i = sym (ap (λ (y : Cell). content_of y) (ap cell_or x.1)) ∙ shows.at k i at in
          rw (slice_get-map {B = ℕ × Content} (λ (y : PrimCell). (y.prim, content_of y.cell)) after k, x.1) (pair_is x.0.prim i (content_of x.0.cell) (s i) x.2 content))

      pub roomy_after : (k : ℕ) (x : PrimCell) (m : Component) → slice_get after k ≡ Some x → HasPrim net x.prim m → IsRoomyCell m x.cell
      roomy_after k x m at has =
          let whole = cells_whole out fits in let same = gone.whole in
          let i = slice_get-found (prims_in net label p) k (let h = slice_get_within after k x at in omega arith) in
          let found = after_at k i.0 i.1 in
          let one : found.0 ≡ x = cc in
          let prim : i.0 ≡ x.prim = sym found.2 ∙ ap (λ (y : PrimCell). y.prim) one in
          let there : HasPrim net i.0 m = ap (slice_get net.prims) prim ∙ has in
          let went = gone.gone k (renamed (port_place net label p i.0) m) (are.each k i.0 m i.1 there) in
          subst (λ (y : Cell). IsRoomyCell m y) (ap cell_or at) (roomy_from (port_place net label p i.0) m (cell_in after k) went.roomy)

abbrev row_with : List (ℕ × Content) → List Wire → Row
row_with cells wires = record { cells = cells; wires = wires }

pub row_is : (net : Network) (label : ℕ → ℕ) (p : ℕ) (s : ℕ → Content) (φ : Signals) (cells : List PrimCell) (wires : List Wire) (m n : ℕ) →
    map {B = ℕ × Content} (λ (x : PrimCell). (x.prim, content_of x.cell)) cells ≡ map (λ i. (i, s i)) (prims_in net label p) → wires ≡ map (wire_of φ) (channels_in net label p) →
    row_of (record { cells = record { items = cells; room = m }; wires = record { items = wires; room = n } }) ≡ projection net label p s φ
row_is net label p s φ cells wires m n e f = ap (λ (x : List (ℕ × Content)). row_with x wires) e ∙ ap (row_with (map (λ i. (i, s i)) (prims_in net label p))) f

pub rows_same : (cells also : List PrimCell) (wires more : List Wire) (k l m n : ℕ) →
    map {B = ℕ × Content} (λ (x : PrimCell). (x.prim, content_of x.cell)) cells ≡ map (λ (x : PrimCell). (x.prim, content_of x.cell)) also → wires ≡ more →
    row_of (record { cells = record { items = cells; room = k }; wires = record { items = wires; room = m } }) ≡ row_of (record { cells = record { items = also; room = l }; wires = record { items = more; room = n } })
rows_same cells also wires more k l m n e f = ap (λ (x : List (ℕ × Content)). row_with x wires) e ∙ ap (row_with (map (λ (x : PrimCell). (x.prim, content_of x.cell)) also)) f
