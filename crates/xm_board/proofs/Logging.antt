-- What becomes of the rows of a log.
use Rattle.std.proofs.Common.{◌≡◌, ℕ, zero, suc, ◌+◌, ◌<◌, ◌≤◌, List, [], ◌∷◌, length, drop, Some, slice_get, refl, ap, sym, ◌∙◌, subst, arith}
use Rattle.xm_board.specs.Inner.Logging.{IsLog, IsLogOf, IsRoomyLog}
use Rattle.xm_board.specs.declared.row_log.RowLog.{RowLog}
use Rattle.xm_model.specs.ListView.{ListView}
use Rattle.xm_model.specs.Net.{Network}
use Rattle.xm_parts.specs.Changing.{HasRooms, IsChange, IsWithinCapacities, RoomLaw}
use Rattle.xm_parts.specs.Projection.{Row}
use Rattle.xm_parts.specs.Rows.{IsRoomyRow, row_of}
use Rattle.xm_parts.specs.declared.changes.Change.{Change}
use Rattle.xm_parts.specs.declared.row.PartRow.{PartRow}

drop_get : {X : Type 0} (xs : List X) (k : ℕ) → slice_get (drop 1 xs) k ≡ slice_get xs (suc k)
drop_get [] k = refl
drop_get (x ∷ xs) k = refl

drop_length : {X : Type 0} (xs : List X) → length xs ≤ suc (length (drop 1 xs))
drop_length [] = omega arith
drop_length (x ∷ xs) = omega arith

some_length : {X : Type 0} (xs : List X) (x : X) → slice_get xs 0 ≡ Some x → length xs ≡ suc (length (drop 1 xs))
some_length [] x e = absurd cc
some_length (y ∷ xs) x e = refl

-- the change at a place, from the row of its cycle
pub change_at : (net : Network) (rows : ℕ → Row) (log : RowLog) (k : ℕ) (c : Change) (now : Row) → IsLogOf net rows log → slice_get log.changes.items k ≡ Some c → now ≡ rows k → IsChange now (rows (suc k)) c
change_at net rows log k c now of at is = subst (λ (r : Row). IsChange r (rows (suc k)) c) (sym is) (of.each k c at)

pub first_change : (log : RowLog) (c : Change) → (is : IsLog log) → slice_get log.changes.items 0 ≡ Some c → IsChange (row_of log.base) (is.rows 1) c
first_change log c is at = change_at is.net is.rows log 0 c (row_of log.base) is.is.of at is.is.of.base

pub first_rooms : RoomLaw → (log : RowLog) (c : Change) → IsLog log → slice_get log.changes.items 0 ≡ Some c → HasRooms log.base.cells.items c.cells.items
first_rooms law log c is at =
    let more = some_length log.changes.items c at in
    law is.net is.label is.part log.base (is.rows 1) c is.is.roomy (first_change log c is at) (is.is.of.within 1 (omega arith))

pub risen : (net : Network) (label : ℕ → ℕ) (p : ℕ) (rows : ℕ → Row) (log : RowLog) (c : Change) (base : PartRow) (changes : ListView Change) → IsRoomyLog net label p rows log → slice_get log.changes.items 0 ≡ Some c → changes.items ≡ drop 1 log.changes.items → ((new : Row) → IsChange (row_of log.base) new c → row_of base ≡ new) → ((net : Network) (label : ℕ → ℕ) (p : ℕ) (new : Row) → IsRoomyRow net label p log.base → IsChange (row_of log.base) new c → IsWithinCapacities net new → IsRoomyRow net label p base) → IsRoomyLog net label p (λ k. rows (suc k)) (record { base = base; changes = changes })
risen net label p rows log c base changes is at rest made roomy =
    let is_change = change_at net rows log 0 c (row_of log.base) is.of at is.of.base in
    let more = some_length log.changes.items c at in
    let fewer : length changes.items ≡ length (drop 1 log.changes.items) = ap length rest in
    record {
      of = record {
        base = made (rows 1) is_change;
        each = λ k d stands. is.of.each (suc k) d (sym (drop_get log.changes.items k) ∙ (ap (λ (xs : List Change). slice_get xs k) (sym rest) ∙ stands));
        within = λ k h. is.of.within (suc k) (omega arith);
      };
      roomy = roomy net label p (rows 1) is.roomy is_change (is.of.within 1 (omega arith));
    }

length_at : {X : Type 0} (xs : List X) (k : ℕ) (x : X) → slice_get xs k ≡ Some x → k < length xs
length_at [] k x e = absurd cc
length_at (y ∷ xs) zero x e = omega arith
length_at (y ∷ xs) (suc k) x e = (let rest = length_at xs k x e in omega arith)

-- where the row of a cycle has been made, its change can be made in it
module _ (net : Network) (label : ℕ → ℕ) (p : ℕ) (rows : ℕ → Row) (log : RowLog) (k : ℕ) (c : Change) (row : PartRow) (is : IsRoomyLog net label p rows log) (at : slice_get log.changes.items k ≡ Some c) (so_far : (row_of row ≡ rows k) × IsRoomyRow net label p row)
  where
    pub change_here : IsChange (row_of row) (rows (suc k)) c
    change_here = change_at net rows log k c (row_of row) is.of at so_far.0

    within_here : IsWithinCapacities net (rows (suc k))
    within_here = is.of.within (suc k) (let h = length_at log.changes.items k c at in omega arith)

    pub rooms_here : RoomLaw → HasRooms row.cells.items c.cells.items
    rooms_here law = law net label p row (rows (suc k)) c so_far.1 change_here within_here

    pub next_here : (new : PartRow) → ((to : Row) → IsChange (row_of row) to c → row_of new ≡ to) → ((net : Network) (label : ℕ → ℕ) (p : ℕ) (to : Row) → IsRoomyRow net label p row → IsChange (row_of row) to c → IsWithinCapacities net to → IsRoomyRow net label p new) → (row_of new ≡ rows (k + 1)) × IsRoomyRow net label p new
    next_here new made roomy =
        let next : suc k ≡ k + 1 = omega arith in
        (made (rows (suc k)) change_here ∙ ap rows next, roomy net label p (rows (suc k)) so_far.1 change_here within_here)
