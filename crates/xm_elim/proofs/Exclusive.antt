-- An elimination that meets an overflow has no end, and one that has an end meets none.
use Rattle.std.proofs.Common.{◌≡◌, ◌≢◌, ℕ, zero, suc, ◌+◌, ◌<◌, inl, inr, List, [], ◌∷◌, length, slice_get, Some, refl, sym, ◌∙◌, ap, ap₂, subst, arith, pos}
use Rattle.std.proofs.lemmas.Bool.{cases_eq, cases_order}
use Rattle.xm_rows.specs.Lemmas.Unique.{never_both}
use Rattle.xm_rows.specs.Combination.{Overflows}
use Rattle.xm_flow.specs.ValidLemma.{Lemma}
use Rattle.xm_rows.specs.Row.{SparseRow, coefficient}
use Rattle.xm_elim.specs.Elimination.{Eliminates, MeetsOverflow, IsFirstOverflow, IsPivot, Reaches, Replaced, Step, after, begin, begun_from, cancelled, more, passed, pivoted, stays}
use Rattle.xm_elim.specs.declared.work.Status.{Status}
use Rattle.xm_elim.specs.declared.work.Working.{Working}
use Rattle.xm_elim.proofs.Passing.{same_item, same_place}
use Rattle.xm_rows.specs.Lemmas.Unique.{one_cancelled}

pub one_pivot : (rows : List Working) (column i j : ℕ) (w v : Working) → IsPivot rows column i w → IsPivot rows column j v → i ≡ j
one_pivot rows column i j w v p q =
    elim (cases_order i j) [
      | inl same ↦ same
      | inr u ↦ elim u [
        | inl below ↦
            let less = q.first i w below p.at p.candidate in
            let more = p.fewest j v q.at q.candidate in
            absurd (omega arith)
        | inr above ↦
            let less = p.first j v above q.at q.candidate in
            let more = q.fewest i w p.at p.candidate in
            absurd (omega arith)
      ]
    ]

working_is : (n m : Working) → n.row ≡ m.row → n.status ≡ m.status → n ≡ m
working_is n m p q = ap₂ (λ (r : SparseRow) (s : Status). working r s) p q
  where
    working : SparseRow → Status → Working
    working r s = record { row = r; status = s }

one_replaced : (column : ℕ) (pivot : SparseRow) (v n m : Working) → coefficient pivot.entries column ≢ pos 0 → Replaced column pivot v n → Replaced column pivot v m → n ≡ m
one_replaced column pivot v n m nonzero (stays out is) (stays not it) = is ∙ sym it
one_replaced column pivot v n m nonzero (stays out is) (cancelled taken status row c) = absurd (out taken)
one_replaced column pivot v n m nonzero (cancelled taken status row c) (stays out is) = absurd (out taken)
one_replaced column pivot v n m nonzero (cancelled taken status row c) (cancelled again other_status other_row d) =
    working_is n m (one_cancelled v.row pivot column n.row m.row nonzero row other_row c d) (status ∙ sym other_status)

pub same_list : {X : Type 0} (xs ys : List X) → length xs ≡ length ys → ((i : ℕ) (x y : X) → slice_get xs i ≡ Some x → slice_get ys i ≡ Some y → x ≡ y) → xs ≡ ys
same_list [] [] len h = refl
same_list [] (y ∷ ys) len h = absurd (omega arith)
same_list (x ∷ xs) [] len h = absurd (omega arith)
same_list {X} (x ∷ xs) (y ∷ ys) len h = ap₂ (λ (z : X) (zs : List X). z ∷ zs) (h 0 x y refl refl) (same_list xs ys (omega arith) (λ i. h (suc i)))

one_step : (moves column : ℕ) (rows next other : List Working) → Step moves column rows next → Step moves column rows other → next ≡ other
one_step moves column rows next other (passed out is) (passed not it) = is ∙ sym it
one_step moves column rows next other (passed out is) (pivoted i w pivot whole at others) = absurd (out i w pivot.at pivot.candidate)
one_step moves column rows next other (pivoted i w pivot whole at others) (passed out is) = absurd (out i w pivot.at pivot.candidate)
one_step moves column rows next other (pivoted i w pivot whole at others) (pivoted j v second len at_j rest) =
    let same = one_pivot rows column i j w v pivot second in
    let there : slice_get rows i ≡ Some v = ap (slice_get rows) same ∙ second.at in
    let v_is = same_item rows i w v pivot.at there in
    same_list next other (whole ∙ sym len) (λ k x y at_x at_y. elim (cases_eq k i) [
      | inl here ↦
          let x_is = same_item next i x (record { row = w.row; status = after moves column }) (sym (ap (slice_get next) here) ∙ at_x) at in
          let y_is = same_item other j y (record { row = v.row; status = after moves column }) (sym (ap (slice_get other) (here ∙ same)) ∙ at_y) at_j in
          working_is x y (ap (λ (u : Working). u.row) x_is ∙ ap (λ (u : Working). u.row) v_is ∙ sym (ap (λ (u : Working). u.row) y_is))
          (ap (λ (u : Working). u.status) x_is ∙ sym (ap (λ (u : Working). u.status) y_is))
      | inr apart ↦
          let u = same_place next rows k x whole at_x in
          let first = others k u.0 x apart u.1 at_x in
          let last = rest k u.0 y (λ h. apart (h ∙ sym same)) u.1 at_y in
          one_replaced column w.row u.0 x y pivot.candidate.entry first (subst (λ (z : Working). Replaced column z.row u.0 y) (sym v_is) last)
    ])

pub one_reaches : (moves column : ℕ) (start rows others : List Working) → Reaches moves start column rows → Reaches moves start column others → rows ≡ others
one_reaches moves zero start rows others begin begin = refl
one_reaches moves (suc column) start next others (more {rows = rows} before step) (more {rows = again} earlier other) =
    let same = one_reaches moves column start rows again before earlier in
    one_step moves column rows next others step (subst (λ (l : List Working). Step moves column l others) (sym same) other)

-- the rows before a column that was passed
pub record Before (moves column : ℕ) (start : List Working) : Type 0 where
  pub rows : List Working
  pub next : List Working
  pub reaches : Reaches moves start column rows
  pub step : Step moves column rows next

pub before_column : (moves column base : ℕ) (start rows : List Working) → column < base → Reaches moves start base rows → Before moves column start
before_column moves column zero start rows below begin = absurd (omega arith)
before_column moves column (suc base) start next below (more {rows = rows} before step) =
    elim (cases_eq column base) [
      | inl same ↦
          record {
            rows = rows;
            next = next;
            reaches = subst (λ (c : ℕ). Reaches moves start c rows) (sym same) before;
            step = subst (λ (c : ℕ). Step moves c rows next) (sym same) step;
          }
      | inr other ↦ before_column moves column base start rows (omega arith) before
    ]

pub no_overflow : (moves column : ℕ) (rows next : List Working) (r s : SparseRow) → Step moves column rows next → IsFirstOverflow rows column r s → ⊥
no_overflow moves column rows next r s (passed out is) f = out f.i f.pivot f.is_pivot.at f.is_pivot.candidate
no_overflow moves column rows next r s (pivoted i w pivot whole at others) f =
    let same = one_pivot rows column f.i i f.pivot w f.is_pivot pivot in
    let there : slice_get rows i ≡ Some f.pivot = sym (ap (slice_get rows) same) ∙ f.is_pivot.at in
    let pivot_is = same_item rows i f.pivot w there pivot.at in
    let n = same_place rows next f.j f.taken (sym whole) f.at in
    by_replaced n.0 w (others f.j f.taken n.0 (λ h. f.other (h ∙ sym same)) f.at n.1) pivot.candidate.entry
    (subst (λ (x : SparseRow). Overflows x w.row column) f.is_r (subst (λ (x : SparseRow). Overflows r x column) (f.is_s ∙ ap (λ (u : Working). u.row) pivot_is) f.overflows))
  where
    by_replaced : (n w : Working) → Replaced column w.row f.taken n → coefficient w.row.entries column ≢ pos 0 → Overflows f.taken.row w.row column → ⊥
    by_replaced n w (stays out is) nonzero overflows = out f.is_taken
    by_replaced n w (cancelled taken status row c) nonzero overflows = never_both f.taken.row w.row column n.row nonzero c overflows

pub never_meets : (moves counts : ℕ) (flow : List SparseRow) (lemmas : List Lemma) (r s : SparseRow) (column : ℕ) →
    Eliminates moves counts flow lemmas → MeetsOverflow moves counts flow r s column → ⊥
never_meets moves counts flow lemmas r s column e m =
    let b = before_column moves column (moves + counts) (begun_from (moves + counts) 0 flow) e.rows m.before_end e.reaches in
    let same = one_reaches moves column (begun_from (moves + counts) 0 flow) b.rows m.rows b.reaches m.reaches in
    no_overflow moves column b.rows b.next r s b.step (subst (λ (l : List Working). IsFirstOverflow l column r s) (sym same) m.first)
