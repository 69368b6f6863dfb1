-- Places noted for columns: what a column's elimination keeps of it.
use Rattle.std.proofs.Common.{◌≡◌, ◌≢◌, ℕ, zero, suc, ◌+◌, ◌<◌, ◌≤◌, inl, inr, List, [], ◌∷◌, ◌++◌, length, get_or, take, slice_get, Some, refl, sym, ◌∙◌, ap, subst, arith, All, pos}
use Rattle.std.proofs.Math.ListN.{set}
use Rattle.std.proofs.lemmas.Bool.{cases_eq}
use Rattle.std.proofs.lemmas.List.{length-map, length-set, take_all, take_more}
use Rattle.std.proofs.lemmas.List.Elements.{All-cons, All-nil, All-weaker}
use Rattle.xm_flow.specs.Lemmas.Listing.{same_place}
use Rattle.xm_model.specs.ListView.{ListView}
use Rattle.xm_model.specs.Membership.{IsIn}
use Rattle.xm_order.specs.Lemmas.Items.{get-set_other, get-set_same, push_cases}
use Rattle.xm_rows.specs.Row.{SparseRow, coefficient}
use Rattle.xm_elim.proofs.Combining.{zero_or_other}
use Rattle.xm_elim.proofs.Passing.{same_item}
use Rattle.xm_elim.proofs.Placing.{at_index}
use Rattle.xm_elim.specs.Elimination.{IsPivot, IsTaken, Replaced, cancelled, stays}
use Rattle.xm_elim.specs.Inner.Columns.{Covers}
use Rattle.xm_rows.specs.Columns.{AreSpread, columns_of, noted}
use Rattle.xm_rows.specs.Lemmas.Meeting.{cancelled_none}
use Rattle.xm_rows.specs.Lemmas.Noting.{spread_at}
use Rattle.xm_elim.specs.Inner.Places.{ArePlaces, AreReplaced}
use Rattle.xm_elim.specs.declared.work.Status.{Status}
use Rattle.xm_elim.specs.declared.work.Working.{Working}

-- ---- rows

pub covers_none : (columns : List (List ℕ)) → ((k : ℕ) → noted columns k ≡ []) → Covers [] columns
covers_none columns empty =
    record {
      covers = λ j w k at. cc;
      bounded = λ k. subst (All (λ j. j < 0)) (sym (empty k)) (All-nil (λ j. j < 0));
    }

pub covers_more : (rows : List Working) (i : ℕ) (w : Working) (columns next : List (List ℕ)) → i < length rows → w ≡ get_or rows i w → Covers (take i rows) columns →
    AreSpread (i ∷ []) w.row.entries columns next → Covers (take (i + 1) rows) next
covers_more rows i w columns next within is h s =
    let len = length_take rows i (omega arith) in
    let next_len = length_take rows (i + 1) (omega arith) in
    let more = take_more rows i w within ∙ ap (λ (v : Working). take i rows ++ v ∷ []) (sym is) in
    record {
      covers = λ j v k at below some. elim (push_cases (take i rows) w j v (sym (ap (λ (l : List Working). slice_get l j) more) ∙ at)) [
        | inl early ↦ s.kept k j (h.covers j v k early (let same = s.whole in omega arith) some)
        | inr last ↦
            let v_is = last.1 in
            let j_is : i ≡ j = (let at_last = last.0 in omega arith) in
            spread_at (i ∷ []) w.row.entries columns next k j s (let same = s.whole in omega arith) (inl j_is)
            (subst (λ (u : Working). coefficient u.row.entries k ≢ pos 0) (sym v_is) some)
      ];
      bounded = λ k. subst (λ (n : ℕ). All (λ j. j < n) (noted next k)) (sym next_len)
          (s.bounded (i + 1) (All-cons (λ j. j < i + 1) i [] (omega arith) (All-nil (λ j. j < i + 1)))
          (λ m. All-weaker (λ j. j < length (take i rows)) (λ j. j < i + 1) (λ j less. omega arith) (noted columns m) (h.bounded m)) k);
    }
  where
    length_take : (xs : List Working) (n : ℕ) → n ≤ length xs → length (take n xs) ≡ n
    length_take xs zero low = refl
    length_take [] (suc n) low = absurd (omega arith)
    length_take (x ∷ xs) (suc n) low = ap suc (length_take xs n (omega arith))

pub covers_all : (rows : List Working) (i : ℕ) (columns : List (List ℕ)) → length rows ≤ i → Covers (take i rows) columns → Covers rows columns
covers_all rows i columns past h = subst (λ (l : List Working). Covers l columns) (take_all i rows past) h

-- each row after the pivot's column is noted still
pub covers_replaced : (column i : ℕ) (rows next : List Working) (d : Working) (status : Status) (pivot : Working) (places : List ℕ) (columns later : List (List ℕ)) →
    IsPivot rows column i pivot → ArePlaces rows column places → AreReplaced column i rows next → i < length next → Covers rows columns →
    AreSpread places pivot.row.entries columns later → Covers (set next i (record { row = (get_or next i d).row; status = status })) later
covers_replaced column i rows next d status pivot places columns later is_pivot are replaced within h s =
    let new : Working = record { row = (get_or next i d).row; status = status } in
    let at = at_get next i d within in
    let same = same_item next i (get_or next i d) pivot at (replaced.at_pivot ∙ is_pivot.at) in
    let len = length-set next i new in
    record {
      covers = λ j w k at_w below some. elim (cases_eq j i) [
        | inl here ↦
            let w_is = same_item (set next i new) i w new (sym (ap (slice_get (set next i new)) here) ∙ at_w) (get-set_same next i new within) in
            let row_is : w.row ≡ pivot.row = ap (λ (v : Working). v.row) w_is ∙ ap (λ (v : Working). v.row) same in
            subst (IsIn (noted later k)) (sym here)
            (s.kept k i (h.covers i pivot k is_pivot.at (let all = s.whole in omega arith) (subst (λ (r : SparseRow). coefficient r.entries k ≢ pos 0) row_is some)))
        | inr apart ↦
            let at_n : slice_get next j ≡ Some w = sym (get-set_other next i j new apart) ∙ at_w in
            let v = same_place next rows j w replaced.whole at_n in
            by_replaced j k w v.0 (replaced.others pivot is_pivot.at j v.0 w apart v.1 at_n) v.1 (let all = s.whole in omega arith) some
      ];
      bounded = λ k. subst (λ (n : ℕ). All (λ j. j < n) (noted later k)) (sym (len ∙ replaced.whole)) (s.bounded (length rows) are.within h.bounded k);
    }
  where
    at_get : (xs : List Working) (i : ℕ) (d : Working) → i < length xs → slice_get xs i ≡ Some (get_or xs i d)
    at_get [] i d below = absurd (omega arith)
    at_get (y ∷ ys) zero d below = refl
    at_get (y ∷ ys) (suc i) d below = at_get ys i d (omega arith)

    by_replaced : (j k : ℕ) (w v : Working) → Replaced column pivot.row v w → slice_get rows j ≡ Some v → k < length columns → coefficient w.row.entries k ≢ pos 0 → IsIn (noted later k) j
    by_replaced j k w v (stays out is) at_v below some = s.kept k j (h.covers j v k at_v below (subst (λ (u : Working). coefficient u.row.entries k ≢ pos 0) is some))
    by_replaced j k w v (cancelled taken status row c) at_v below some =
        elim (zero_or_other (coefficient v.row.entries k)) [
          | inl none ↦ elim (zero_or_other (coefficient pivot.row.entries k)) [
            | inl neither ↦ absurd (some (cancelled_none v.row pivot.row w.row column k c none neither))
            | inr by_pivot ↦ spread_at places pivot.row.entries columns later k j s below (are.complete j v at_v taken) by_pivot
          ]
          | inr was ↦ s.kept k j (h.covers j v k at_v below was)
        ]

pub covers_pass : (column i : ℕ) (rows next : List Working) (d : Working) (status : Status) (pivot : Working) (places : List ℕ) (columns later : List (List ℕ)) →
    (w : Working) × IsPivot rows column i w → pivot ≡ get_or rows i pivot → ArePlaces rows column places → AreReplaced column i rows next → i < length next → Covers rows columns →
    AreSpread places pivot.row.entries columns later → Covers (set next i (record { row = (get_or next i d).row; status = status })) later
covers_pass column i rows next d status pivot places columns later found is are replaced within h s =
    let same = same_item rows i pivot found.0 (at_index rows i pivot (let whole = replaced.whole in omega arith) is) found.1.at in
    covers_replaced column i rows next d status found.0 places columns later found.1 are replaced within h (subst (λ (w : Working). AreSpread places w.row.entries columns later) same s)

-- what is read for a column has the place of each row that is taken
pub covers_read : (rows : List Working) (column : ℕ) (lists : List (ListView ℕ)) (read : List ℕ) → column < length lists → noted (columns_of lists) column ≡ read →
    Covers rows (columns_of lists) → (j : ℕ) (w : Working) → slice_get rows j ≡ Some w → IsTaken column w → IsIn read j
covers_read rows column lists read below is h j w at taken =
    let len = length-map lists (λ (l : ListView ℕ). l.items) in
    subst (λ (l : List ℕ). IsIn l j) is (h.covers j w column at (omega (arith, len, below)) taken.entry)

pub covers_lent : (rows lent : List Working) (lists held : List (ListView ℕ)) → lent ≡ rows → held ≡ lists → Covers rows (columns_of lists) → Covers lent (columns_of held)
covers_lent rows lent lists held rows_are lists_are h =
    subst (λ (l : List Working). Covers l (columns_of held)) (sym rows_are) (subst (λ (l : List (ListView ℕ)). Covers rows (columns_of l)) (sym lists_are) h)

pub spread_read : (places lent : List ℕ) (rows : List Working) (i : ℕ) (w : Working) (columns next : List (List ℕ)) → lent ≡ places → w ≡ get_or rows i w →
    AreSpread lent (get_or rows i w).row.entries columns next → AreSpread places w.row.entries columns next
spread_read places lent rows i w columns next same is h =
    subst (λ (v : Working). AreSpread places v.row.entries columns next) (sym is) (subst (λ (l : List ℕ). AreSpread l (get_or rows i w).row.entries columns next) same h)
