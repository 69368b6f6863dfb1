-- The shape of the working rows: what has been eliminated is 0.
use Rattle.std.proofs.Common.{◌≡◌, ◌≢◌, ℕ, zero, suc, ◌<◌, ◌≤◌, inl, inr, List, slice_get, Some, nat_lt, le-ltb, sym, ◌∙◌, ap, subst, arith, pos}
use Rattle.std.proofs.lemmas.Bool.{cases_lt, lt-ltb, cond-true, cond-false}
use Rattle.xm_rows.specs.Points.{FirstFactorIsPositive}
use Rattle.xm_rows.specs.Row.{IsRow, SparseRow, coefficient}
use Rattle.xm_elim.specs.Elimination.{IsCandidate, IsPivot, Reaches, Replaced, Step, after, begin, cancelled, more, passed, pivoted, stays}
use Rattle.xm_elim.specs.Inner.Places.{Leads}
use Rattle.xm_elim.specs.declared.work.Status.TheVariants.{Gone, Pivot, Waiting}
use Rattle.xm_elim.specs.declared.work.Working.{Working}
use Rattle.xm_elim.proofs.Combining.{nonzero_kept, zero_both, zero_or_other}
use Rattle.xm_elim.proofs.Passing.{Origin, another, column_gone, itself, origin}

pub record IsShaped (moves bound column : ℕ) (rows : List Working) : Type 0 where
  pub waits : (j : ℕ) (w : Working) (k : ℕ) → slice_get rows j ≡ Some w → w.status ≡ Waiting → k < column → coefficient w.row.entries k ≡ pos 0
  pub leads : (j : ℕ) (w : Working) (k : ℕ) → slice_get rows j ≡ Some w → w.status ≡ Pivot k → Leads moves column k w.row
  pub alone : (j : ℕ) (w : Working) (k i : ℕ) (v : Working) → slice_get rows j ≡ Some w → w.status ≡ Pivot k → i ≢ j → slice_get rows i ≡ Some v → v.status ≢ Gone →
      coefficient v.row.entries k ≡ pos 0
  pub row : (j : ℕ) (w : Working) → slice_get rows j ≡ Some w → IsRow w.row
  pub bounded : (j : ℕ) (w : Working) (k : ℕ) → slice_get rows j ≡ Some w → bound ≤ k → coefficient w.row.entries k ≡ pos 0

replaced_status : (column : ℕ) (p : SparseRow) (v n : Working) → Replaced column p v n → n.status ≡ v.status
replaced_status column p v n (stays out is) = ap (λ (w : Working). w.status) is
replaced_status column p v n (cancelled taken status row c) = status

replaced_zero : (column : ℕ) (p : SparseRow) (v n : Working) (k : ℕ) → Replaced column p v n → coefficient p.entries k ≡ pos 0 →
    coefficient v.row.entries k ≡ pos 0 → coefficient n.row.entries k ≡ pos 0
replaced_zero column p v n k (stays out is) on_p on_v = ap (λ (w : Working). coefficient w.row.entries k) is ∙ on_v
replaced_zero column p v n k (cancelled taken status row c) on_p on_v = zero_both v.row p column n.row k c on_v on_p

replaced_kept : FirstFactorIsPositive → (column : ℕ) (p : SparseRow) (v n : Working) (k : ℕ) → Replaced column p v n → coefficient p.entries column ≢ pos 0 →
    coefficient p.entries k ≡ pos 0 → coefficient v.row.entries k ≢ pos 0 → coefficient n.row.entries k ≢ pos 0
replaced_kept first column p v n k (stays out is) nonzero on_p on_v = λ e. on_v (sym (ap (λ (w : Working). coefficient w.row.entries k) is) ∙ e)
replaced_kept first column p v n k (cancelled taken status row c) nonzero on_p on_v = nonzero_kept first v.row p column n.row k c nonzero on_p on_v

replaced_row : (column : ℕ) (p : SparseRow) (v n : Working) → Replaced column p v n → IsRow v.row → IsRow n.row
replaced_row column p v n (stays out is) on_v = subst (λ (w : Working). IsRow w.row) (sym is) on_v
replaced_row column p v n (cancelled taken status row c) on_v = row

-- what a pivot becomes does not wait, and is that of no other column
after_waits : (moves column : ℕ) → after moves column ≡ Waiting → ⊥
after_waits moves column e =
    elim (cases_lt column moves) [
      | inl below ↦ let is = cond-true (nat_lt column moves) Gone (Pivot column) (lt-ltb column moves below) in cc
      | inr above ↦ let is = cond-false (nat_lt column moves) Gone (Pivot column) (le-ltb column moves above) in cc
    ]

after_pivot : (moves column k : ℕ) → after moves column ≡ Pivot k → (k ≡ column) × (moves ≤ column)
after_pivot moves column k e =
    elim (cases_lt column moves) [
      | inl below ↦ let is = cond-true (nat_lt column moves) Gone (Pivot column) (lt-ltb column moves below) in absurd (cc)
      | inr above ↦ let is = cond-false (nat_lt column moves) Gone (Pivot column) (le-ltb column moves above) in let same : k ≡ column = cc in (same, above)
    ]

later : (moves column k : ℕ) (r : SparseRow) → Leads moves column k r → Leads moves (suc column) k r
later moves column k r h = record { from = h.from; below = (let below = h.below in omega arith); some = h.some; before = h.before }

passed_shaped : (moves bound column : ℕ) (rows : List Working) → ((j : ℕ) (v : Working) → slice_get rows j ≡ Some v → IsCandidate column v → ⊥) →
    IsShaped moves bound column rows → IsShaped moves bound (suc column) rows
passed_shaped moves bound column rows out h =
    record {
      waits = λ j w k at is below. elim (cases_lt k column) [
        | inl early ↦ h.waits j w k at is early
        | inr late ↦
            let same : column ≡ k = omega arith in
            subst (λ (c : ℕ). coefficient w.row.entries c ≡ pos 0) same (none j w at is)
      ];
      leads = λ j w k at is. later moves column k w.row (h.leads j w k at is);
      alone = h.alone;
      row = h.row;
      bounded = h.bounded;
    }
  where
    none : (j : ℕ) (w : Working) → slice_get rows j ≡ Some w → w.status ≡ Waiting → coefficient w.row.entries column ≡ pos 0
    none j w at is =
        elim (zero_or_other (coefficient w.row.entries column)) [
          | inl nothing ↦ nothing
          | inr some ↦ absurd (out j w at (record { waits = is; entry = some }))
        ]

module _ (first : FirstFactorIsPositive) (moves bound column i : ℕ) (rows next : List Working) (pivot : Working) (is_pivot : IsPivot rows column i pivot)
    (h : IsShaped moves bound column rows) (from : (j : ℕ) (n : Working) → slice_get next j ≡ Some n → Origin moves column rows i pivot j n) where
  pivot_low : (k : ℕ) → k < column → coefficient pivot.row.entries k ≡ pos 0
  pivot_low k below = h.waits i pivot k is_pivot.at is_pivot.candidate.waits below

  next_waits : (j : ℕ) (n : Working) (k : ℕ) → Origin moves column rows i pivot j n → n.status ≡ Waiting → k < suc column → coefficient n.row.entries k ≡ pos 0
  next_waits j n k (itself same is) waits below = absurd (after_waits moves column (sym (ap (λ (w : Working). w.status) is) ∙ waits))
  next_waits j n k (another other v at r) waits below =
      let status = replaced_status column pivot.row v n r in
      let works : n.status ≢ Gone = λ e. not_gone (sym waits ∙ e) in
      elim (cases_lt k column) [
        | inl early ↦ replaced_zero column pivot.row v n k r (pivot_low k early) (h.waits j v k at (sym status ∙ waits) early)
        | inr late ↦
            let same : column ≡ k = omega arith in
            subst (λ (c : ℕ). coefficient n.row.entries c ≡ pos 0) same (column_gone column pivot.row v n is_pivot.candidate.entry r works)
      ]
    where
      not_gone : Waiting ≡ Gone → ⊥
      not_gone e = cc

  next_leads : (j : ℕ) (n : Working) (k : ℕ) → Origin moves column rows i pivot j n → n.status ≡ Pivot k → Leads moves (suc column) k n.row
  next_leads j n k (itself same is) status =
      let k_is = after_pivot moves column k (sym (ap (λ (w : Working). w.status) is) ∙ status) in
      let row : pivot.row ≡ n.row = sym (ap (λ (w : Working). w.row) is) in
      subst (Leads moves (suc column) k) row (record {
        from = (let high = k_is.1 in let e = k_is.0 in omega arith);
        below = (let e = k_is.0 in omega arith);
        some = subst (λ (c : ℕ). coefficient pivot.row.entries c ≢ pos 0) (sym k_is.0) is_pivot.candidate.entry;
        before = λ l low. pivot_low l (let e = k_is.0 in omega arith);
      })
  next_leads j n k (another other v at r) status =
      let before = h.leads j v k at (sym (replaced_status column pivot.row v n r) ∙ status) in
      record {
        from = before.from;
        below = (let below = before.below in omega arith);
        some = replaced_kept first column pivot.row v n k r is_pivot.candidate.entry (pivot_low k before.below) before.some;
        before = λ l low. replaced_zero column pivot.row v n l r (pivot_low l (let below = before.below in omega arith)) (before.before l low);
      }

  next_alone : (j : ℕ) (n : Working) (k l : ℕ) (m : Working) → Origin moves column rows i pivot j n → n.status ≡ Pivot k → l ≢ j → Origin moves column rows i pivot l m →
      m.status ≢ Gone → coefficient m.row.entries k ≡ pos 0
  next_alone j n k l m (itself same is) status apart (itself here it) works = absurd (apart (here ∙ sym same))
  next_alone j n k l m (itself same is) status apart (another other v at r) works =
      let k_is = after_pivot moves column k (sym (ap (λ (w : Working). w.status) is) ∙ status) in
      subst (λ (c : ℕ). coefficient m.row.entries c ≡ pos 0) (sym k_is.0) (column_gone column pivot.row v m is_pivot.candidate.entry r works)
  next_alone j n k l m (another other v at r) status apart (itself here it) works =
      let before = h.leads j v k at (sym (replaced_status column pivot.row v n r) ∙ status) in
      ap (λ (w : Working). coefficient w.row.entries k) it ∙ pivot_low k before.below
  next_alone j n k l m (another other v at r) status apart (another otherwise u at_u q) works =
      let v_is = sym (replaced_status column pivot.row v n r) ∙ status in
      let before = h.leads j v k at v_is in
      let u_works = λ (e : u.status ≡ Gone). works (replaced_status column pivot.row u m q ∙ e) in
      replaced_zero column pivot.row u m k q (pivot_low k before.below) (h.alone j v k l u at v_is apart at_u u_works)

  next_row : (j : ℕ) (n : Working) → Origin moves column rows i pivot j n → IsRow n.row
  next_row j n (itself same is) = subst (λ (w : Working). IsRow w.row) (sym is) (h.row i pivot is_pivot.at)
  next_row j n (another other v at r) = replaced_row column pivot.row v n r (h.row j v at)

  next_bounded : (j : ℕ) (n : Working) (k : ℕ) → Origin moves column rows i pivot j n → bound ≤ k → coefficient n.row.entries k ≡ pos 0
  next_bounded j n k (itself same is) high = ap (λ (w : Working). coefficient w.row.entries k) is ∙ h.bounded i pivot k is_pivot.at high
  next_bounded j n k (another other v at r) high =
      replaced_zero column pivot.row v n k r (h.bounded i pivot k is_pivot.at high) (h.bounded j v k at high)

  pub next_shaped : IsShaped moves bound (suc column) next
  next_shaped =
      record {
        waits = λ j n k at. next_waits j n k (from j n at);
        leads = λ j n k at. next_leads j n k (from j n at);
        alone = λ j n k l m at status apart at_m. next_alone j n k l m (from j n at) status apart (from l m at_m);
        row = λ j n at. next_row j n (from j n at);
        bounded = λ j n k at. next_bounded j n k (from j n at);
      }

step_shaped : FirstFactorIsPositive → (moves bound column : ℕ) (rows next : List Working) → Step moves column rows next →
    IsShaped moves bound column rows → IsShaped moves bound (suc column) next
step_shaped first moves bound column rows next (passed out is) h =
    subst (IsShaped moves bound (suc column)) (sym is) (passed_shaped moves bound column rows out h)
step_shaped first moves bound column rows next (pivoted i pivot is_pivot whole at_i others) h =
    next_shaped first moves bound column i rows next pivot is_pivot h (origin moves column i rows next pivot whole at_i others)

pub reaches_shaped : FirstFactorIsPositive → (moves bound column : ℕ) (start rows : List Working) → Reaches moves start column rows →
    IsShaped moves bound 0 start → IsShaped moves bound column rows
reaches_shaped first moves bound zero start rows begin h = h
reaches_shaped first moves bound (suc column) start next (more {rows = rows} before step) h =
    step_shaped first moves bound column rows next step (reaches_shaped first moves bound column start rows before h)
