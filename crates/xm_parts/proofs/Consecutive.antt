-- The rows of consecutive cycles can be changed from the one to the other, in the room that there is.
use Rattle.std.proofs.Common.{◌≡◌, ℕ, ◌≤◌, true, false, List, length, map, refl, ap, sym, ◌∙◌, subst, arith, Some, None, slice_get}
use Rattle.std.specs.Prelude.{Option}
use Rattle.std.proofs.lemmas.List.{length-map}
use Rattle.std.proofs.lemmas.Option.{slice_get-map}
use Rattle.xm_model.specs.Component.{Component, Content, Held, Nothing, Packets, Pending, Pref, Source, Sink, Queue, Function, Fork, Join, Switch, Merge, content_of}
use Rattle.xm_model.specs.Net.{HasPrim, Network, capacity_of}
use Rattle.xm_model.specs.Next.{FitsContent, content_after, joined, left, move, next}
use Rattle.xm_model.specs.Signals.{Signals}
use Rattle.xm_model.specs.declared.state.Cell.{Cell}
use Rattle.xm_model.specs.declared.state.Cell.TheVariants as cell
use Rattle.xm_parts.proofs.Applied.{count_is, shown}
use Rattle.xm_parts.proofs.Parting.{slice_get-found}
use Rattle.xm_parts.proofs.Passing.{passing_from}
use Rattle.xm_parts.proofs.Stepping.{map_item}
use Rattle.xm_parts.specs.Changing.{CanBecome, CapacityLaw, ChangeLaw, HasRoomFor, IsQueueStep, RoomLaw, changed, passed, place_of}
use Rattle.xm_parts.specs.Partition.{channels_in, prims_in, touches_at}
use Rattle.xm_parts.specs.Projection.{wire_of}
use Rattle.xm_parts.specs.Rows.{cell_in, cell_or, prim_or}
use Rattle.xm_parts.specs.declared.changes.CellChange.{CellChange}
use Rattle.xm_parts.specs.declared.changes.CellChange.TheVariants as change
use Rattle.xm_parts.specs.declared.row.PrimCell.{PrimCell}
use Rattle.xm_step.specs.Roomy.{IsRoomyCell}

-- the content of a primitive of the part, by place
pub record IsContentAt (net : Network) (label : ℕ → ℕ) (p : ℕ) (s : ℕ → Content) (k i : ℕ) (x : Content) : Type 0 where
  pub stands : slice_get (prims_in net label p) k ≡ Some i
  pub is : s i ≡ x
  pub prim : Component
  pub has : HasPrim net i prim

pub content_from : (net : Network) (label : ℕ → ℕ) (p : ℕ) (s : ℕ → Content) (k i : ℕ) (x : Content) → slice_get (map {B = ℕ × Content} (λ j. (j, s j)) (prims_in net label p)) k ≡ Some (i, x) → IsContentAt net label p s k i x
content_from net label p s k i x at =
    let found = map_item {Y = ℕ × Content} (λ j. (j, s j)) (prims_in net label p) (map (λ j. (j, s j)) (prims_in net label p)) k (i, x) refl at in
    let same : found.0 ≡ i = ap (λ y. y.0) found.2 in
    let passes = passing_from (touches_at net label p) (length net.prims) k found.0 found.1 in
    let prim = slice_get-found net.prims found.0 passes.below in
    record {
      stands = found.1 ∙ ap Some same;
      is = ap s (sym same) ∙ ap (λ y. y.1) found.2;
      prim = prim.0;
      has = ap (slice_get net.prims) (sym same) ∙ prim.1;
    }

step_of : (ps : List ℕ) (leaves comes : Option ℕ) → IsQueueStep ps (joined (left ps leaves) comes)
step_of ps None comes = record { popped = false; pushed = comes; is = refl }
step_of ps (Some d) comes = record { popped = true; pushed = comes; is = refl }

can_become : (n : ℕ) (m : Component) (s : Content) (φ : Signals) → FitsContent n m s → CanBecome s (content_after m s φ)
can_become n (Source out cs mode) (Pending d) φ fits = tt
can_become n (Sink input mode) (Held b) φ fits = tt
can_become n (Queue input out k ps) (Packets qs) φ fits = step_of qs (move φ out) (move φ input)
can_become n (Function input out t) Nothing φ fits = tt
can_become n (Fork input a b ta tb) Nothing φ fits = tt
can_become n (Join a b out pass) Nothing φ fits = tt
can_become n (Switch input a b t) Nothing φ fits = tt
can_become n (Merge a b out) (Pref side) φ fits = tt
can_become n (Source out cs mode) (Packets qs) φ fits = elim fits [ ]
can_become n (Source out cs mode) (Held b) φ fits = elim fits [ ]
can_become n (Source out cs mode) (Pref side) φ fits = elim fits [ ]
can_become n (Source out cs mode) Nothing φ fits = elim fits [ ]
can_become n (Sink input mode) (Packets qs) φ fits = elim fits [ ]
can_become n (Sink input mode) (Pending d) φ fits = elim fits [ ]
can_become n (Sink input mode) (Pref side) φ fits = elim fits [ ]
can_become n (Sink input mode) Nothing φ fits = elim fits [ ]
can_become n (Queue input out k ps) (Pending d) φ fits = elim fits [ ]
can_become n (Queue input out k ps) (Held b) φ fits = elim fits [ ]
can_become n (Queue input out k ps) (Pref side) φ fits = elim fits [ ]
can_become n (Queue input out k ps) Nothing φ fits = elim fits [ ]
can_become n (Function input out t) (Packets qs) φ fits = elim fits [ ]
can_become n (Function input out t) (Pending d) φ fits = elim fits [ ]
can_become n (Function input out t) (Held b) φ fits = elim fits [ ]
can_become n (Function input out t) (Pref side) φ fits = elim fits [ ]
can_become n (Fork input a b ta tb) (Packets qs) φ fits = elim fits [ ]
can_become n (Fork input a b ta tb) (Pending d) φ fits = elim fits [ ]
can_become n (Fork input a b ta tb) (Held _) φ fits = elim fits [ ]
can_become n (Fork input a b ta tb) (Pref side) φ fits = elim fits [ ]
can_become n (Join a b out pass) (Packets qs) φ fits = elim fits [ ]
can_become n (Join a b out pass) (Pending d) φ fits = elim fits [ ]
can_become n (Join a b out pass) (Held _) φ fits = elim fits [ ]
can_become n (Join a b out pass) (Pref side) φ fits = elim fits [ ]
can_become n (Switch input a b t) (Packets qs) φ fits = elim fits [ ]
can_become n (Switch input a b t) (Pending d) φ fits = elim fits [ ]
can_become n (Switch input a b t) (Held _) φ fits = elim fits [ ]
can_become n (Switch input a b t) (Pref side) φ fits = elim fits [ ]
can_become n (Merge a b out) (Packets qs) φ fits = elim fits [ ]
can_become n (Merge a b out) (Pending d) φ fits = elim fits [ ]
can_become n (Merge a b out) (Held _) φ fits = elim fits [ ]
can_become n (Merge a b out) Nothing φ fits = elim fits [ ]

pub change_law : ChangeLaw
change_law net label p s φ ψ fits = record {
  cells = record {
    whole = length-map {B = ℕ × Content} (prims_in net label p) (λ i. (i, next net s φ i)) ∙ sym (length-map {B = ℕ × Content} (prims_in net label p) (λ i. (i, s i)));
    prims = λ k i j x y one two.
        let a = content_from net label p s k i x one in let b = content_from net label p (next net s φ) k j y two in
        same_place (sym a.stands ∙ b.stands);
    each = λ k i j x y one two.
        let a = content_from net label p s k i x one in let b = content_from net label p (next net s φ) k j y two in
        let same : i ≡ j = same_place (sym a.stands ∙ b.stands) in
        let after : next net s φ i ≡ content_after a.prim (s i) φ = rw a.has refl in
        let becomes : content_after a.prim (s i) φ ≡ y = sym after ∙ ap (next net s φ) same ∙ b.is in
        subst (λ (z : Content). CanBecome x z) becomes (subst (λ (z : Content). CanBecome z (content_after a.prim (s i) φ)) a.is (can_become net.colours a.prim (s i) φ (fits i a.prim a.has)));
  };
  wires = length-map (channels_in net label p) (wire_of ψ) ∙ sym (length-map (channels_in net label p) (wire_of φ));
} where
  same_place : {i j : ℕ} → Some i ≡ Some j → i ≡ j
  same_place e = cc

few_packets : (n : ℕ) (m : Component) (ps : List ℕ) → FitsContent n m (Packets ps) → length ps ≤ capacity_of m
few_packets n (Queue input out k initial) ps fits = fits.0
few_packets n (Source out cs mode) ps fits = absurd fits
few_packets n (Sink input mode) ps fits = absurd fits
few_packets n (Function input out t) ps fits = absurd fits
few_packets n (Fork input a b ta tb) ps fits = absurd fits
few_packets n (Join a b out pass) ps fits = absurd fits
few_packets n (Switch input a b t) ps fits = absurd fits
few_packets n (Merge a b out) ps fits = absurd fits

pub capacity_law : CapacityLaw
capacity_law net label p s φ fits k i m ps at has =
    let a = content_from net label p s k i (Packets ps) at in
    few_packets net.colours m ps (subst (λ (x : Content). FitsContent net.colours m x) a.is (fits i m has))

-- a cell of a queue that has room for its capacity has room for what it becomes within that
room_for : (m : Component) (c : CellChange) (x : Cell) → IsRoomyCell m x → ((ps : List ℕ) → changed c (content_of x) ≡ Packets ps → length ps ≤ capacity_of m) → HasRoomFor c x
room_for m (change.Set place y) x roomy few = tt
room_for (Queue input out k initial) (change.Queue place popped pushed) (cell.Packets q) roomy few = let less = few (passed popped pushed q.items) refl in let room = roomy.1 in omega arith
room_for (Source out cs mode) (change.Queue place popped pushed) (cell.Packets q) roomy few = let less = few (passed popped pushed q.items) refl in omega arith
room_for (Sink input mode) (change.Queue place popped pushed) (cell.Packets q) roomy few = let less = few (passed popped pushed q.items) refl in omega arith
room_for (Function input out t) (change.Queue place popped pushed) (cell.Packets q) roomy few = let less = few (passed popped pushed q.items) refl in omega arith
room_for (Fork input a b ta tb) (change.Queue place popped pushed) (cell.Packets q) roomy few = let less = few (passed popped pushed q.items) refl in omega arith
room_for (Join a b out pass) (change.Queue place popped pushed) (cell.Packets q) roomy few = let less = few (passed popped pushed q.items) refl in omega arith
room_for (Switch input a b t) (change.Queue place popped pushed) (cell.Packets q) roomy few = let less = few (passed popped pushed q.items) refl in omega arith
room_for (Merge a b out) (change.Queue place popped pushed) (cell.Packets q) roomy few = let less = few (passed popped pushed q.items) refl in omega arith
room_for m (change.Queue place popped pushed) (cell.Pending d) roomy few = tt
room_for m (change.Queue place popped pushed) (cell.Held b) roomy few = tt
room_for m (change.Queue place popped pushed) (cell.Pref s) roomy few = tt
room_for m (change.Queue place popped pushed) cell.Nothing roomy few = tt

pub room_law : RoomLaw
room_law net label p row new c roomy is few k it at =
    let cells = row.cells.items in
    let each = is.cells.each k it at in
    let here = shown cells (place_of it) each.prim each.before each.was in
    let x = slice_get-found cells (place_of it) (let b = is.cells.below k it at in let count = count_is cells in omega arith) in
    let stands : slice_get (prims_in net label p) (place_of it) ≡ Some x.0.prim = ap (λ (xs : List ℕ). slice_get xs (place_of it)) (sym roomy.fits.prims) ∙ (rw (slice_get-map (λ (y : PrimCell). y.prim) cells (place_of it), x.1) refl) in
    let passes = passing_from (touches_at net label p) (length net.prims) (place_of it) x.0.prim stands in
    let m = slice_get-found net.prims x.0.prim passes.below in
    let same : x.0.prim ≡ each.prim = sym (ap prim_or x.1) ∙ here.0 in
    let fine = roomy.roomy (place_of it) x.0 m.0 x.1 m.1 in
    let holds : cell_in cells (place_of it) ≡ x.0.cell = ap cell_or x.1 in
    room_for m.0 it (cell_in cells (place_of it)) (subst (λ (y : Cell). IsRoomyCell m.0 y) (sym holds) fine)
    (λ ps e. few (place_of it) each.prim m.0 ps (each.is ∙ ap (λ (s : Content). pair_with each.prim s) (ap (changed it) (sym here.1) ∙ e)) (ap (slice_get net.prims) (sym same) ∙ m.1)) where
      pair_with : ℕ → Content → Option (ℕ × Content)
      pair_with i s = Some (i, s)
