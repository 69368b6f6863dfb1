-- One column's step, from what its loops did.
use Rattle.std.proofs.Common.{◌≡◌, ℕ, zero, suc, ◌+◌, ◌<◌, List, [], ◌∷◌, length, get_or, slice_get, Some, refl, sym, ◌∙◌, ap, subst, arith, add-one}
use Rattle.std.proofs.Math.ListN.{set}
use Rattle.std.proofs.lemmas.List.{length-set}
use Rattle.std.specs.List.{refill}
use Rattle.xm_model.specs.Lending.{refill-full}
use Rattle.xm_order.specs.Lemmas.Items.{get-set_other, get-set_same}
use Rattle.xm_rows.specs.Row.{SparseRow}
use Rattle.xm_elim.specs.declared.fault.ElimFault.{ElimFault}
use Rattle.xm_elim.specs.declared.fault.ElimFault.TheVariants as fault
use Rattle.xm_elim.specs.Elimination.{IsPivot, MeetsOverflow, OnOverflow, Reaches, Step, after, begin, begun_from, more, passed, pivoted}
use Rattle.xm_elim.specs.Inner.Places.{AreReplaced, PassRefused, RefusedFirst}
use Rattle.xm_elim.specs.declared.work.Status.{Status}
use Rattle.xm_elim.specs.declared.work.Working.{Working}
use Rattle.xm_elim.proofs.Passing.{same_item}

abbrev working : SparseRow → Status → Working
working row status = record { row = row; status = status }

pub step_pivoted : (moves column i : ℕ) (rows next : List Working) (d : Working) (status : Status) → (w : Working) × IsPivot rows column i w → AreReplaced column i rows next →
    i < length next → status ≡ after moves column → Step moves column rows (set next i (record { row = (get_or next i d).row; status = status }))
step_pivoted moves column i rows next d status pivot h within is =
    let w = pivot.0 in
    let at = at_get next i d within in
    let same = same_item next i (get_or next i d) w at (h.at_pivot ∙ pivot.1.at) in
    let new : Working = record { row = (get_or next i d).row; status = status } in
    let done : Working = record { row = w.row; status = after moves column } in
    let new_is : new ≡ done = ap (λ (v : Working). working v.row status) same ∙ ap (working w.row) is in
    pivoted i w pivot.1 (length-set next i new ∙ h.whole) (get-set_same next i new within ∙ ap Some new_is)
    (λ j v n other at_v at_n. h.others w pivot.1.at j v n other at_v (sym (get-set_other next i j new other) ∙ at_n))
  where
    at_get : (xs : List Working) (i : ℕ) (d : Working) → i < length xs → slice_get xs i ≡ Some (get_or xs i d)
    at_get [] i d below = absurd (omega arith)
    at_get (y ∷ ys) zero d below = refl
    at_get (y ∷ ys) (suc i) d below = at_get ys i d (omega arith)

pub pass_refused : (column i : ℕ) (rows : List Working) (f : ElimFault) → (w : Working) × IsPivot rows column i w → OnOverflow (RefusedFirst column i rows) f → OnOverflow (PassRefused column rows) f
pass_refused column i rows fault.OutOfMemory pivot h = tt
pass_refused column i rows (fault.Overflow r s c) pivot h =
    let is = same_item rows i h.refused.pivot pivot.0 h.refused.at_pivot pivot.1.at in
    record {
      same = h.refused.same;
      first = record {
        i = i;
        pivot = pivot.0;
        is_pivot = pivot.1;
        is_s = h.refused.is_s ∙ ap (λ (w : Working). w.row) is;
        j = h.p;
        other = h.refused.other;
        taken = h.refused.taken;
        at = h.refused.at;
        is_taken = h.refused.is_taken;
        is_r = h.refused.is_r;
        overflows = h.refused.overflows;
        earlier = h.earlier;
      };
    }

pub reaches_more : (moves column : ℕ) (start rows next : List Working) → Reaches moves start column rows → Step moves column rows next → Reaches moves start (column + 1) next
reaches_more moves column start rows next before step = rw add-one (more before step)

pub meets_overflow : (moves counts column : ℕ) (flow : List SparseRow) (rows : List Working) (f : ElimFault) → column < moves + counts →
    Reaches moves (begun_from (moves + counts) 0 flow) column rows → OnOverflow (PassRefused column rows) f → OnOverflow (MeetsOverflow moves counts flow) f
meets_overflow moves counts column flow rows fault.OutOfMemory below reaches h = tt
meets_overflow moves counts column flow rows (fault.Overflow r s c) below reaches h =
    subst (MeetsOverflow moves counts flow r s) (sym h.same) (record { rows = rows; reaches = reaches; before_end = below; first = h.first })

-- a step keeps the number of rows
pub step_whole : (moves column : ℕ) (rows next : List Working) → Step moves column rows next → length next ≡ length rows
step_whole moves column rows next (passed out is) = ap length is
step_whole moves column rows next (pivoted i w pivot whole at others) = whole

pub reaches_begin : (moves base : ℕ) (flow : List SparseRow) (rows : List Working) → rows ≡ begun_from base 0 flow → Reaches moves (begun_from base 0 flow) 0 rows
reaches_begin moves base flow rows is = subst (Reaches moves (begun_from base 0 flow) 0) (sym is) begin

pub refilled : {X : Type 0} (rows lent next : List X) → lent ≡ rows → length next ≡ length lent → refill (length rows) rows next ≡ next
refilled rows lent next is whole = refill-full (length rows) rows next (whole ∙ ap length is)

pub reaches_refilled : (moves column : ℕ) (start rows lent next : List Working) → lent ≡ rows → Reaches moves start column rows → Step moves column lent next →
    Reaches moves start (column + 1) (refill (length rows) rows next)
reaches_refilled moves column start rows lent next is before step =
    let from_rows = subst (λ (l : List Working). Step moves column l next) is step in
    subst (Reaches moves start (column + 1)) (sym (refilled rows lent next is (step_whole moves column lent next step))) (reaches_more moves column start rows next before from_rows)
