-- The rows of a column, replaced place by place.
use Rattle.std.proofs.Common.{◌≡◌, ◌≢◌, ℕ, zero, suc, ◌+◌, ◌<◌, ◌≤◌, ◌⊎◌, inl, inr, List, [], ◌∷◌, length, get_or, drop, slice_get, Some, None, refl, sym, ◌∙◌, ap, subst, arith, pos}
use Rattle.std.proofs.Math.ListN.{set}
use Rattle.std.proofs.lemmas.Bool.{cases_eq}
use Rattle.std.proofs.lemmas.List.{drop_more, drop_all, length-set}
use Rattle.xm_colours.specs.Family.{Rises}
use Rattle.xm_model.specs.Membership.{IsIn}
use Rattle.xm_order.specs.Lemmas.Items.{get-set_other, get-set_same}
use Rattle.xm_rows.specs.Lemmas.Unique.{never_both}
use Rattle.xm_rows.specs.Combination.{Overflows}
use Rattle.xm_rows.specs.Row.{SparseRow, coefficient}
use Rattle.xm_elim.specs.declared.fault.ElimFault.{ElimFault}
use Rattle.xm_elim.specs.declared.fault.ElimFault.TheVariants as fault
use Rattle.xm_elim.specs.Elimination.{IsPivot, IsTaken, OnOverflow, Replaced, cancelled, stays}
use Rattle.xm_elim.specs.Inner.Places.{ArePlaces, AreReplaced, AreReplacing, IsOneReplaced, IsRefused, IsReplacement, RefusedFirst}
use Rattle.xm_elim.specs.declared.work.Working.{Working}
use Rattle.xm_elim.proofs.Passing.{same_item, same_place}
use Rattle.xm_elim.proofs.Placing.{all_in, rise_behind}

pub replaced_none : (column i p : ℕ) (rows : List Working) → IsReplacement column i p rows None → IsOneReplaced column i p rows rows
replaced_none column i p rows h =
    record {
      whole = refl;
      others = λ j other. refl;
      at_pivot = λ same. refl;
      here = λ other w v n at_w at_v at_n. stays (h v at_v other) (same_item rows p n v at_n at_v);
    }

pub replaced_some : (column i p : ℕ) (rows : List Working) (t : SparseRow) (d : Working) → p < length rows → i < length rows → IsReplacement column i p rows (Some t) →
    IsOneReplaced column i p rows (set rows p (record { row = t; status = (get_or rows p d).status }))
replaced_some column i p rows t d p_within i_within h =
    let new : Working = record { row = t; status = (get_or rows p d).status } in
    let now = get-set_same rows p new p_within in
    let v = at_get rows p d p_within in
    record {
      whole = length-set rows p new;
      others = λ j other. get-set_other rows p j new other;
      at_pivot = λ same. absurd ((h (get_or rows i d) (get_or rows p d) (at_get rows i d i_within) v).0 same);
      here = λ other w x n at_w at_x at_n.
          let is = h w x at_w at_x in
          let n_is = same_item (set rows p new) p n new at_n now in
          let x_is = same_item rows p (get_or rows p d) x v at_x in
          subst (λ (y : Working). Replaced column w.row x y) (sym n_is)
          (cancelled is.1 (ap (λ (y : Working). y.status) x_is) is.2 is.3);
    }
  where
    at_get : (xs : List Working) (i : ℕ) (d : Working) → i < length xs → slice_get xs i ≡ Some (get_or xs i d)
    at_get [] i d below = absurd (omega arith)
    at_get (y ∷ ys) zero d below = refl
    at_get (y ∷ ys) (suc i) d below = at_get ys i d (omega arith)

pub replacing_start : (column i : ℕ) (places : List ℕ) (rows : List Working) → ArePlaces rows column places → AreReplacing column i places 0 rows rows
replacing_start column i places rows are =
    record {
      whole = refl;
      at_pivot = refl;
      others = λ w at_w j v n other at_v at_n. inl (same_item rows j n v at_n at_v, are.complete j v at_v);
    }

-- a place is among those from it on, and not among those behind it
there : (places : List ℕ) (k : ℕ) → k < length places → IsIn (drop k places) (get_or places k 0)
there places k within = subst (λ (l : List ℕ). IsIn l (get_or places k 0)) (sym (drop_more places k 0 within)) (inl refl)

not_behind : (places : List ℕ) (k : ℕ) → Rises places → k < length places → IsIn (drop (k + 1) places) (get_or places k 0) → ⊥
not_behind places k up within h =
    let less = all_in (λ x. get_or places k 0 < x) (drop (k + 1) places) (get_or places k 0) (rise_behind places k up within) h in absurd (omega arith)

behind : (places : List ℕ) (k j : ℕ) → k < length places → IsIn (drop k places) j → (get_or places k 0 ≡ j) ⊎ IsIn (drop (k + 1) places) j
behind places k j within h = subst (λ (l : List ℕ). IsIn l j) (drop_more places k 0 within) h

pub replacing_more : (column i : ℕ) (places : List ℕ) (k : ℕ) (rows next later : List Working) → Rises places → k < length places →
    AreReplacing column i places k rows next → IsOneReplaced column i (get_or places k 0) next later → AreReplacing column i places (k + 1) rows later
replacing_more column i places k rows next later up within h one =
    record {
      whole = one.whole ∙ h.whole;
      at_pivot = elim (cases_eq (get_or places k 0) i) [
        | inl same ↦ sym (ap (slice_get later) same) ∙ one.at_pivot same ∙ ap (slice_get next) same ∙ h.at_pivot
        | inr other ↦ one.others i (λ e. other (sym e)) ∙ h.at_pivot
      ];
      others = λ w at_w j v n other at_v at_n.
          let before = same_place later next j n one.whole at_n in
          elim (cases_eq j (get_or places k 0)) [
            | inl here ↦
                let p_other : get_or places k 0 ≢ i = λ e. other (here ∙ e) in
                let at_before : slice_get next (get_or places k 0) ≡ Some before.0 = ap (slice_get next) (sym here) ∙ before.1 in
                let at_later : slice_get later (get_or places k 0) ≡ Some n = ap (slice_get later) (sym here) ∙ at_n in
                let now = one.here p_other w before.0 n (h.at_pivot ∙ at_w) at_before at_later in
                elim (h.others w at_w j v before.0 other at_v before.1) [
                  | inl fresh ↦ inr (subst (λ (x : Working). Replaced column w.row x n) fresh.0 now, λ again. not_behind places k up within (subst (IsIn (drop (k + 1) places)) here again))
                  | inr done ↦ absurd (done.1 (subst (IsIn (drop k places)) (sym here) (there places k within)))
                ]
            | inr apart ↦
                let same = same_item next j n before.0 (sym (one.others j apart) ∙ at_n) before.1 in
                elim (h.others w at_w j v before.0 other at_v before.1) [
                  | inl fresh ↦ inl (same ∙ fresh.0, λ taken. elim (behind places k j within (fresh.1 taken)) [ inl here ↦ absurd (apart (sym here)) | inr ahead ↦ ahead ])
                  | inr done ↦ inr (subst (Replaced column w.row v) (sym same) done.0, λ ahead. done.1 (subst (λ (l : List ℕ). IsIn l j) (sym (drop_more places k 0 within)) (inr ahead)))
                ]
          ];
    }

pub replacing_done : (column i : ℕ) (places : List ℕ) (k : ℕ) (rows next : List Working) → length places ≤ k → AreReplacing column i places k rows next → AreReplaced column i rows next
replacing_done column i places k rows next past h =
    record {
      whole = h.whole;
      at_pivot = h.at_pivot;
      others = λ w at_w j v n other at_v at_n. elim (h.others w at_w j v n other at_v at_n) [
        | inl fresh ↦ stays (λ taken. subst (λ (l : List ℕ). IsIn l j) (drop_all k places past) (fresh.1 taken)) fresh.0
        | inr done ↦ done.0
      ];
    }

pub refused_first : (column i : ℕ) (places : List ℕ) (k : ℕ) (rows next : List Working) (pivot : Working) (r s : SparseRow) (c : ℕ) → Rises places → k < length places →
    IsPivot rows column i pivot → AreReplacing column i places k rows next → IsRefused column i (get_or places k 0) next r s c → RefusedFirst column i rows r s c
refused_first column i places k rows next pivot r s c up within is_pivot h refused =
    let p = get_or places k 0 in
    let at_w = sym h.at_pivot ∙ refused.at_pivot in
    let same_pivot = same_item rows i refused.pivot pivot at_w is_pivot.at in
    let v = same_place next rows p refused.taken h.whole refused.at in
    let taken_is : refused.taken ≡ v.0 = elim (h.others refused.pivot at_w p v.0 refused.taken refused.other v.1 refused.at) [
      | inl fresh ↦ fresh.0
      | inr done ↦ absurd (done.1 (there places k within))
    ] in
    record {
      p = p;
      refused = record {
        same = refused.same;
        other = refused.other;
        pivot = refused.pivot;
        at_pivot = at_w;
        is_s = refused.is_s;
        taken = v.0;
        at = v.1;
        is_taken = subst (IsTaken column) taken_is refused.is_taken;
        is_r = refused.is_r ∙ ap (λ (w : Working). w.row) taken_is;
        overflows = refused.overflows;
      };
      earlier = λ j x less apart at_x taken overflows.
          let n = same_place rows next j x (sym h.whole) at_x in
          elim (h.others refused.pivot at_w j x n.0 apart at_x n.1) [
            | inl fresh ↦ elim (behind places k j within (fresh.1 taken)) [
              | inl here ↦ absurd (omega arith)
              | inr ahead ↦
                  let more = all_in (λ y. p < y) (drop (k + 1) places) j (rise_behind places k up within) ahead in absurd (omega arith)
            ]
            | inr done ↦ by_replaced j x n.0 taken done.0 (subst (λ (y : SparseRow). Overflows x.row y column) refused.is_s overflows)
                (subst (λ (w : Working). coefficient w.row.entries column ≢ pos 0) (sym same_pivot) is_pivot.candidate.entry)
          ];
    }
  where
    by_replaced : (j : ℕ) (x n : Working) → IsTaken column x → Replaced column refused.pivot.row x n → Overflows x.row refused.pivot.row column →
        coefficient refused.pivot.row.entries column ≢ pos 0 → ⊥
    by_replaced j x n taken (stays not is) overflows nonzero = not taken
    by_replaced j x n taken (cancelled is_taken status row is) overflows nonzero = never_both x.row refused.pivot.row column n.row nonzero is overflows

-- what a fault says of one row it says of all
pub refused_all : (column i : ℕ) (places : List ℕ) (k : ℕ) (rows next : List Working) (pivot : (w : Working) × IsPivot rows column i w) (f : ElimFault) → Rises places → k < length places →
    AreReplacing column i places k rows next → OnOverflow (IsRefused column i (get_or places k 0) next) f → OnOverflow (RefusedFirst column i rows) f
refused_all column i places k rows next pivot (fault.Overflow r s c) up within h refused = refused_first column i places k rows next pivot.0 r s c up within pivot.1 h refused
refused_all column i places k rows next pivot fault.OutOfMemory up within h refused = tt

pub replacing_pivot : (column i : ℕ) (places : List ℕ) (k : ℕ) (rows next : List Working) (pivot : (w : Working) × IsPivot rows column i w) → AreReplacing column i places k rows next →
    (w : Working) → slice_get next i ≡ Some w → coefficient w.row.entries column ≢ pos 0
replacing_pivot column i places k rows next pivot h w at =
    let is = same_item rows i pivot.0 w pivot.1.at (sym h.at_pivot ∙ at) in
    subst (λ (x : Working). coefficient x.row.entries column ≢ pos 0) is pivot.1.candidate.entry

pub pivot_within : (column i : ℕ) (rows : List Working) → (w : Working) × IsPivot rows column i w → i < length rows
pivot_within column i rows pivot = below rows i pivot.0 pivot.1.at
  where
    below : (xs : List Working) (i : ℕ) (x : Working) → slice_get xs i ≡ Some x → i < length xs
    below [] i x at = cc
    below (y ∷ ys) zero x at = omega arith
    below (y ∷ ys) (suc i) x at = let rest = below ys i x at in omega arith
