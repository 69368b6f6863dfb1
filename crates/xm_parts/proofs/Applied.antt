-- The row that changes make.
use Rattle.std.proofs.Common.{◌≡◌, ◌≢◌, ℕ, zero, suc, ◌≤◌, List, [], ◌∷◌, length, map, refl, ap, sym, ◌∙◌, subst, inl, inr, arith, Some, None, slice_get}
use Rattle.std.specs.Prelude.{Option, ◌⊎◌}
use Rattle.std.proofs.lemmas.Bool.Decides.{eqb_tells}
use Rattle.std.proofs.lemmas.List.{length-map, map-id}
use Rattle.std.proofs.lemmas.Option.{slice_get_within}
use Rattle.xm_model.specs.Component.{Component, Content, Packets, Source, Sink, Queue, Function, Fork, Join, Switch, Merge, content_of}
use Rattle.xm_model.specs.Net.{HasPrim, Network, capacity_of}
use Rattle.xm_model.specs.declared.state.Cell.{Cell}
use Rattle.xm_model.specs.declared.state.Cell.TheVariants as cell
use Rattle.xm_model.specs.declared.state.Wire.{Wire}
use Rattle.xm_parts.proofs.Parting.{slice_get-found}
use Rattle.xm_parts.proofs.Solving.{from_items}
use Rattle.xm_parts.proofs.Stepping.{from_map, pairing}
use Rattle.xm_parts.specs.Changing.{AllApply, AreCellChanges, AreWireChanges, CanApplyAll, HasRooms, IsApplied, IsPlainChange, WiresApply, changed, place_of}
use Rattle.xm_parts.specs.Projection.{Row}
use Rattle.xm_parts.specs.Rows.{cell_in, cell_or, contents_in, prim_in, prim_or, row_of}
use Rattle.xm_parts.specs.declared.changes.CellChange.{CellChange}
use Rattle.xm_parts.specs.declared.changes.CellChange.TheVariants as change
use Rattle.xm_parts.specs.declared.changes.WireChange.{WireChange}
use Rattle.xm_parts.specs.declared.row.PrimCell.{PrimCell}
use Rattle.xm_step.specs.Roomy.{IsRoomyCell}

-- an item with this number, or none
pub record HasNumber {X : Type 0} (f : X → ℕ) (xs : List X) (i : ℕ) : Type 0 where
  pub place : ℕ
  pub item : X
  pub at : slice_get xs place ≡ Some item
  pub number : f item ≡ i

pub find_number : {X : Type 0} (f : X → ℕ) (xs : List X) (i : ℕ) → HasNumber f xs i ⊎ ((k : ℕ) (x : X) → slice_get xs k ≡ Some x → f x ≢ i)
find_number f [] i = inr (λ k x at. absurd cc)
find_number {X} f (x ∷ xs) i =
    elim (eqb_tells (f x) i) [
      | inl t ↦ inl (record { place = 0; item = x; at = refl; number = t.1 })
      | inr t ↦ elim (find_number f xs i) [
        | inl h ↦ inl (record { place = suc h.place; item = h.item; at = h.at; number = h.number })
        | inr none ↦ inr (later t.1 none)
      ]
    ] where
      later : f x ≢ i → ((k : ℕ) (y : X) → slice_get xs k ≡ Some y → f y ≢ i) → (k : ℕ) (y : X) → slice_get (x ∷ xs) k ≡ Some y → f y ≢ i
      later differ none zero y at = let same : x ≡ y = cc in subst (λ (z : X). f z ≢ i) same differ
      later differ none (suc k) y at = none k y at

-- what a row shows at a place
pub shown : (cells : List PrimCell) (k i : ℕ) (s : Content) → slice_get (contents_in cells) k ≡ Some (i, s) → (prim_in cells k ≡ i) × (content_of (cell_in cells k) ≡ s)
shown [] k i s at = absurd cc
shown (x ∷ xs) zero i s at = (ap first at, ap second at) where
  first : Option (ℕ × Content) → ℕ
  first None = 0
  first (Some y) = y.0

  second : Option (ℕ × Content) → Content
  second None = s
  second (Some y) = y.1
shown (x ∷ xs) (suc k) i s at = shown xs k i s at

pub count_is : (cells : List PrimCell) → length (contents_in cells) ≡ length cells
count_is cells = length-map {B = ℕ × Content} cells (λ (x : PrimCell). (x.prim, content_of x.cell))

pub can_apply : (cells : List PrimCell) (new : List (ℕ × Content)) (cs : List CellChange) → AreCellChanges (contents_in cells) new (length (contents_in cells)) cs → HasRooms cells cs → CanApplyAll cells cs
can_apply cells new cs are rooms = record {
  below = λ k c at. (let b = are.below k c at in let count = count_is cells in omega arith);
  once = are.once;
  plain = λ k c at. (let each = are.each k c at in subst (λ (s : Content). IsPlainChange c s) (sym (shown cells (place_of c) each.prim each.before each.was).1) each.plain);
  rooms = rooms;
}

pair_parts : (x : PrimCell) (i : ℕ) (s : Content) → x.prim ≡ i → content_of x.cell ≡ s → pairing x.prim (content_of x.cell) ≡ pairing i s
pair_parts x i s p q = ap (λ (n : ℕ). pairing n (content_of x.cell)) p ∙ ap (pairing i) q

module _ (old after : List PrimCell) (cs : List CellChange) (new : List (ℕ × Content)) (whole : length new ≡ length (contents_in old))
    (are : AreCellChanges (contents_in old) new (length (contents_in old)) cs) (all : AllApply old after cs) where
  pub contents_after : contents_in after ≡ new
  contents_after =
      from_map {Y = ℕ × Content} (λ (x : PrimCell). (x.prim, content_of x.cell)) after new
      (let a = all.whole in let count = count_is old in omega arith) (λ k y at.
      let x = slice_get-found after k (let h = slice_get_within new k y at in let a = all.whole in let count = count_is old in omega arith) in
      let prim : x.0.prim ≡ prim_in after k = sym (ap prim_or x.1) in
      let content : content_of x.0.cell ≡ content_of (cell_in after k) = ap (λ (z : Cell). content_of z) (sym (ap cell_or x.1)) in
      elim (find_number place_of cs k) [
        | inl h ↦ (let each = are.each h.place h.item h.at in let done = all.each h.place h.item h.at in
            let is : Some (pairing each.prim (changed h.item each.before)) ≡ Some y = sym each.is ∙ ap (slice_get new) h.number ∙ at in
            let was = shown old (place_of h.item) each.prim each.before each.was in
            let same_prim : x.0.prim ≡ each.prim = prim ∙ all.prims k ∙ ap (prim_in old) (sym h.number) ∙ was.0 in
            let same_content : content_of x.0.cell ≡ changed h.item each.before = content ∙ ap (λ (n : ℕ). content_of (cell_in after n)) (sym h.number) ∙ done.content ∙ ap (changed h.item) was.1 in
            (x.0, x.1, pair_parts x.0 each.prim (changed h.item each.before) same_prim same_content ∙ the_item is))
        | inr none ↦ (let same = are.rest k (let h = slice_get_within new k y at in omega arith) none in
            let here : slice_get (contents_in old) k ≡ Some y = sym same ∙ at in
            let was = shown old k y.0 y.1 here in
            (x.0, x.1, pair_parts x.0 y.0 y.1 (prim ∙ all.prims k ∙ was.0) (content ∙ ap (λ (z : Cell). content_of z) (all.rest k none) ∙ was.1)))
      ]) where
        the_item : {a b : ℕ × Content} → Some a ≡ Some b → a ≡ b
        the_item e = cc

pub wires_after : (old after new : List Wire) (cs : List WireChange) → length new ≡ length old → AreWireChanges old new (length old) cs → WiresApply old after cs → after ≡ new
wires_after old after new cs whole are all =
    from_items (λ x. x) after new (let a = all.whole in omega arith) (λ k x at.
    elim (find_number (λ (c : WireChange). c.place) cs k) [
      | inl h ↦ (let each = are.each h.place h.item h.at in
          ap (slice_get after) (sym h.number) ∙ all.each are.once h.place h.item h.at ∙ sym each.is ∙ ap (slice_get new) h.number ∙ at)
      | inr none ↦ (all.rest k none ∙ sym (are.rest k (let h = slice_get_within new k x at in omega arith) none) ∙ at)
    ]) ∙ map-id new

pub prims_kept : (old after : List PrimCell) (cs : List CellChange) → AllApply old after cs → map (λ (x : PrimCell). x.prim) after ≡ map (λ (x : PrimCell). x.prim) old
prims_kept old after cs all =
    from_items {Y = ℕ} (λ (x : PrimCell). x.prim) (map (λ (x : PrimCell). x.prim) after) old (length-map after (λ (x : PrimCell). x.prim) ∙ all.whole) (λ k x at.
    let found = slice_get-found after k (let h = slice_get_within old k x at in let a = all.whole in omega arith) in
    mapped after k found.0 found.1 ∙ ap Some (sym (ap prim_or found.1) ∙ all.prims k ∙ ap prim_or at)) where
      mapped : (cells : List PrimCell) (k : ℕ) (x : PrimCell) → slice_get cells k ≡ Some x → slice_get (map (λ (y : PrimCell). y.prim) cells) k ≡ Some x.prim
      mapped [] k x at = absurd cc
      mapped (y ∷ ys) zero x at = ap (λ (o : Option PrimCell). Some (prim_or o)) at
      mapped (y ∷ ys) (suc k) x at = mapped ys k x at

-- a cell that a change was made to is roomy again
roomy_applied : (m : Component) (c : CellChange) (old new : Cell) → IsApplied c old new → IsPlainChange c (content_of old) → IsRoomyCell m old → ((ps : List ℕ) → content_of new ≡ Packets ps → length ps ≤ capacity_of m) → IsRoomyCell m new
roomy_applied (Source out cs mode) c old new done plain roomy few = tt
roomy_applied (Sink input mode) c old new done plain roomy few = tt
roomy_applied (Function input out t) c old new done plain roomy few = tt
roomy_applied (Fork input a b ta tb) c old new done plain roomy few = tt
roomy_applied (Join a b out pass) c old new done plain roomy few = tt
roomy_applied (Switch input a b t) c old new done plain roomy few = tt
roomy_applied (Merge a b out) c old new done plain roomy few = tt
roomy_applied (Queue input out k ps) (change.Queue place popped pushed) (cell.Packets q) (cell.Packets r) done plain roomy few = (few r.items refl, (let same = done.room in let room = roomy.1 in omega arith))
roomy_applied (Queue input out k ps) (change.Queue place popped pushed) (cell.Packets q) (cell.Pending d) done plain roomy few = absurd (let e = done.content in cc)
roomy_applied (Queue input out k ps) (change.Queue place popped pushed) (cell.Packets q) (cell.Held h) done plain roomy few = absurd (let e = done.content in cc)
roomy_applied (Queue input out k ps) (change.Queue place popped pushed) (cell.Packets q) (cell.Pref s) done plain roomy few = absurd (let e = done.content in cc)
roomy_applied (Queue input out k ps) (change.Queue place popped pushed) (cell.Packets q) cell.Nothing done plain roomy few = absurd (let e = done.content in cc)
roomy_applied (Queue input out k ps) (change.Set place x) (cell.Packets q) new done plain roomy few = absurd plain.0
roomy_applied (Queue input out k ps) c (cell.Pending d) new done plain roomy few = absurd roomy
roomy_applied (Queue input out k ps) c (cell.Held h) new done plain roomy few = absurd roomy
roomy_applied (Queue input out k ps) c (cell.Pref s) new done plain roomy few = absurd roomy
roomy_applied (Queue input out k ps) c cell.Nothing new done plain roomy few = absurd roomy

pub roomy_kept : (net : Network) (old after : List PrimCell) (cs : List CellChange) (can : CanApplyAll old cs) (all : AllApply old after cs) →
    ((k : ℕ) (x : PrimCell) (m : Component) → slice_get old k ≡ Some x → HasPrim net x.prim m → IsRoomyCell m x.cell) →
    ((k i : ℕ) (m : Component) (ps : List ℕ) → slice_get (contents_in after) k ≡ Some (i, Packets ps) → HasPrim net i m → length ps ≤ capacity_of m) →
    (k : ℕ) (x : PrimCell) (m : Component) → slice_get after k ≡ Some x → HasPrim net x.prim m → IsRoomyCell m x.cell
roomy_kept net old after cs can all roomy few k x m at has =
    let y = slice_get-found old k (let h = slice_get_within after k x at in let a = all.whole in omega arith) in
    let prim : y.0.prim ≡ x.prim = sym (ap prim_or y.1) ∙ sym (all.prims k) ∙ ap prim_or at in
    let was : IsRoomyCell m (cell_in old k) = subst (λ (z : Cell). IsRoomyCell m z) (sym (ap cell_or y.1)) (roomy k y.0 m y.1 (ap (slice_get net.prims) prim ∙ has)) in
    let is : IsRoomyCell m (cell_in after k) = elim (find_number place_of cs k) [
      | inl h ↦ (let done = all.each h.place h.item h.at in
          subst (λ (n : ℕ). IsRoomyCell m (cell_in after n)) h.number (roomy_applied m h.item (cell_in old (place_of h.item)) (cell_in after (place_of h.item)) done (can.plain h.place h.item h.at)
          (subst (λ (n : ℕ). IsRoomyCell m (cell_in old n)) (sym h.number) was)
          (λ ps e. few k x.prim m ps (seen after k x at ps (ap (λ (n : ℕ). content_of (cell_in after n)) (sym h.number) ∙ e)) has)))
      | inr none ↦ subst (λ (z : Cell). IsRoomyCell m z) (sym (all.rest k none)) was
    ] in
    subst (λ (z : Cell). IsRoomyCell m z) (ap cell_or at) is where
      seen : (cells : List PrimCell) (k : ℕ) (x : PrimCell) → slice_get cells k ≡ Some x → (ps : List ℕ) → content_of (cell_in cells k) ≡ Packets ps → slice_get (contents_in cells) k ≡ Some (x.prim, Packets ps)
      seen [] k x at ps e = absurd cc
      seen (y ∷ ys) zero x at ps e = let p = ap prim_or at in ap Some (ap (λ (n : ℕ). pairing n (content_of y.cell)) p ∙ ap (pairing x.prim) e)
      seen (y ∷ ys) (suc k) x at ps e = seen ys k x at ps e

abbrev row_with : List (ℕ × Content) → List Wire → Row
row_with cells wires = record { cells = cells; wires = wires }

pub row_made : (cells : List PrimCell) (wires : List Wire) (m n : ℕ) (new : Row) → contents_in cells ≡ new.cells → wires ≡ new.wires →
    row_of (record { cells = record { items = cells; room = m }; wires = record { items = wires; room = n } }) ≡ new
row_made cells wires m n new e f = ap (λ (x : List (ℕ × Content)). row_with x wires) e ∙ ap (row_with new.cells) f
