-- What `cancel` says, put together from the factors, the merge and the reduction.
use Rattle.std.proofs.Common.{◌≡◌, ◌≢◌, ℕ, List, inl, inr, sym, ◌∙◌, subst, arith, pos, ℤ, ◌-ℤ◌, ◌*ℤ◌}
use Rattle.std.proofs.lemmas.Int.{ints}
use Rattle.xm_rows.specs.declared.row.Entry.{Entry}
use Rattle.xm_rows.specs.Row.{SparseRow, IsRow, Fits128, coefficient}
use Rattle.xm_rows.specs.Divisor.{IsReductionOf}
use Rattle.xm_rows.specs.Combination.{AreFactors, DifferenceFits, CombinationLeaves, IsCancelled, Overflows}
use Rattle.xm_rows.specs.Inner.Merging.{IsMerge}
use Rattle.xm_rows.specs.Lemmas.Integers.{zero_factor}
use Rattle.xm_rows.specs.Lemmas.Factors.{factors_cancel}

pub overflows_by : (r s : SparseRow) (column : ℕ) (u v a b : ℤ) → AreFactors a b u v → a ≡ coefficient r.entries column → b ≡ coefficient s.entries column →
    CombinationLeaves r s u v → Overflows r s column
overflows_by r s column u v a b factors is_a is_b leaves = record { u = u; v = v; factors = rw (is_a, is_b) at factors; leaves = leaves }

pub leaves_in_constant : (r s : SparseRow) (u v a b : ℤ) → a ≡ r.constant → b ≡ s.constant → ¬ DifferenceFits u a v b → CombinationLeaves r s u v
leaves_in_constant r s u v a b is_a is_b leaves = inr (rw (is_a, is_b) at leaves)

pub leaves_at_column : (r s : SparseRow) (u v : ℤ) (first second : List Entry) → first ≡ r.entries → second ≡ s.entries →
    (k : ℕ) × ¬ DifferenceFits u (coefficient first k) v (coefficient second k) → CombinationLeaves r s u v
leaves_at_column r s u v first second is_first is_second leaves = inl (leaves.0, rw (is_first, is_second) at leaves.1)

pub merged_row : {u v : ℤ} {r s : List Entry} (out : List Entry) (a b constant z : ℤ) → IsMerge u r v s out → DifferenceFits u a v b × (constant ≡ (u *ℤ a) -ℤ (v *ℤ b)) →
    z ≡ constant → IsRow (record { entries = out; constant = z })
merged_row out a b constant z m is same =
    record { rising = m.rising; nonzero = m.nonzero; fit = m.fit; constant_fits = subst Fits128 (sym (same ∙ is.1)) is.0.difference }

pub cancelled_by : (r s : SparseRow) (column : ℕ) (u v a b : ℤ) (first second out : List Entry) (first_constant second_constant constant : ℤ) (row t : SparseRow) →
    AreFactors a b u v → a ≡ coefficient r.entries column → b ≡ coefficient s.entries column →
    IsMerge u first v second out → first ≡ r.entries → second ≡ s.entries →
    DifferenceFits u first_constant v second_constant × (constant ≡ (u *ℤ first_constant) -ℤ (v *ℤ second_constant)) → first_constant ≡ r.constant → second_constant ≡ s.constant →
    row ≡ record { entries = out; constant = constant } → IsReductionOf row t → IsCancelled r s column t
cancelled_by r s column u v a b first second out first_constant second_constant constant row t factors is_a is_b merge is_first is_second difference is_rc is_sc is_row reduction =
    let merged = rw (is_first, is_second) at merge in
    let constants = rw (is_rc, is_sc) at difference in
    let reduced = rw is_row at reduction in
    record {
      u = u;
      v = v;
      factors = rw (is_a, is_b) at factors;
      fits = record { entries = merged.fits; constant = constants.0 };
      combination = record {
        divisor = reduced.divisor;
        positive = reduced.positive;
        entries = λ k. reduced.entries k ∙ merged.same k;
        constant = reduced.constant ∙ constants.1;
        reduced = reduced.reduced;
      };
    }

-- the cancelled column is gone
pub gone_by : (r s : SparseRow) (column : ℕ) (t : SparseRow) → coefficient s.entries column ≢ pos 0 → IsCancelled r s column t → coefficient t.entries column ≡ pos 0
gone_by r s column t nonzero c =
    let some = c.combination.positive in
    zero_factor (pos c.combination.divisor) (coefficient t.entries column) (λ e. absurd (omega (arith, ints)))
    (c.combination.entries column ∙ factors_cancel (coefficient r.entries column) (coefficient s.entries column) c.u c.v nonzero c.factors)
