-- What holds of the tableau after any number of pivots, and what follows.
use Rattle.std.proofs.Common.{◌≡◌, ◌≢◌, ◌⊎◌, ℕ, zero, suc, ◌+◌, ◌<◌, ◌≤◌, inl, inr, List, [], ◌∷◌, length, get_or, refl}
use Rattle.std.proofs.Common.{sym, ◌∙◌, ap, ap₂, subst, arith, pos, negsuc, neg_ℤ, ℤ, ◌+ℤ◌, ◌-ℤ◌, ◌*ℤ◌, ◌<ℤ◌, ◌≤ℤ◌}
use Rattle.std.proofs.Common.{unsigned_abs}
use Rattle.std.proofs.lemmas.Bool.{cases_eq}
use Rattle.std.proofs.lemmas.Int.{ints}
use Rattle.std.proofs.Math.IntN.{*ℤ_comm, *ℤ-zero}
use Rattle.xm_rows.specs.Row.{SparseRow, coefficient}
use Rattle.xm_rows.specs.Points.{Meets}
use Rattle.xm_rows.specs.Lemmas.Entries.{own_column, other_column}
use Rattle.xm_rows.specs.Lemmas.Integers.{distrib, times_negated, times_one}
use Rattle.xm_rows.specs.Lemmas.Meeting.{gives_back_points}
use Rattle.xm_lp.specs.declared.decision.Con.{Con}
use Rattle.xm_lp.specs.Start.{Tableau, AreBelow, row_at, artificials, objective, start_rows, IsTop, IsStart}
use Rattle.xm_lp.specs.Pivot.{entry_at, constant_at, basic_at, IsPivotColumn, IsPivotRow, IsPivoted}
use Rattle.xm_lp.specs.Rule.{After, first, next, IsNext}
use Rattle.xm_lp.proofs.Combined.{IsSum, sum_combined}
use Rattle.xm_lp.proofs.Signs.{sign_of, times_up, times_down, times_positive, nonzero}
use Rattle.xm_lp.proofs.Starting.{start_count, own_column_of, first_rows, own_entries, start_sum}
use Rattle.xm_lp.proofs.Basis.{IsBasic, MeetsRows, basic_same, basic_stays, rows_keep, zero_or_other, first_factor}
use Rattle.xm_lp.proofs.Points.{Located, located, objective_down}

-- the first tableau's rows, and how this tableau stands to them
pub record IsSound (constraints : List Con) (columns : ℕ) (t : Tableau) : Type 0 where
  pub top : SparseRow
  pub is_top : IsTop (start_rows columns (artificials constraints columns) constraints)
      (artificials constraints columns) (objective constraints columns) top
  pub count : length t.rows ≡ suc (length constraints)
  pub basic_top : basic_at t 0 ≡ objective constraints columns
  pub basic : IsBasic t
  pub sums : (i : ℕ) → i < length t.rows → IsSum (first_rows constraints columns top)
      (own_column_of constraints columns) (row_at t.rows i)
  pub back : (m : ℤ) (x : ℕ → ℤ) → MeetsRows t.rows m x → MeetsRows (first_rows constraints columns top) m x

start_constant : (s t i : ℕ) (constraints : List Con) → i < length constraints →
    pos 0 ≤ℤ (row_at (start_rows s t constraints) i).constant
start_constant s t i [] lt = absurd (omega arith)
start_constant s t zero (c ∷ cs) lt = omega (arith, ints)
start_constant s t (suc i) (c ∷ cs) lt = start_constant (Rattle.std.proofs.Common.cond c.equal 0 1 + s) (suc t) i cs (omega arith)

module _ (constraints : List Con) (columns : ℕ) (below : AreBelow columns constraints) where
  basics_are : (t : Tableau) → IsStart constraints columns t → (i : ℕ) → i < suc (length constraints) → basic_at t i ≡
      own_column_of constraints columns i
  basics_are t s zero lt = s.basic_top
  basics_are t s (suc i) lt = s.basic_rows i (omega arith)

  first_basic : (t : Tableau) (s : IsStart constraints columns t) →
      IsBasic (record { rows = first_rows constraints columns s.top; basics = t.basics })
  first_basic t s =
      let count = start_count columns (artificials constraints columns) constraints in
      let entry = own_entries constraints columns s.top below s.sums in
      record {
        count = s.basic_count ∙ omega (arith, count);
        own = λ i lt.
            subst (λ (k : ℕ). pos 0 <ℤ coefficient (row_at (first_rows constraints columns s.top) i).entries k) (sym (basics_are t s i (omega (arith, count, lt))))
            (subst (λ (z : ℤ). pos 0 <ℤ z) (sym (entry i i (omega (arith, count, lt))
            (omega (arith, count, lt)) ∙ own_column i i (pos 1) refl)) (omega (arith, ints)));
        apart = λ i h in_i in_h differ.
            ap (coefficient (row_at (first_rows constraints columns s.top) h).entries) (basics_are t s i (omega (arith, count, in_i)))
            ∙ entry h i (omega (arith, count, in_h)) (omega (arith, count, in_i)) ∙ other_column h i (pos 1) differ;
        constants = λ i some lt. first_constant i some (omega (arith, count, lt));
      }
    where
      first_constant : (i : ℕ) → 0 < i → i < suc (length constraints) →
          pos 0 ≤ℤ (row_at (first_rows constraints columns s.top) i).constant
      first_constant zero some lt = absurd (omega arith)
      first_constant (suc i) some lt = start_constant columns (artificials constraints columns) i constraints (omega arith)

  sound_first : (t : Tableau) → IsStart constraints columns t → IsSound constraints columns t
  sound_first t s =
      let count = start_count columns (artificials constraints columns) constraints in
      let rows = ap (λ (l : List SparseRow). length l) s.rows in
      record {
        top = s.top;
        is_top = s.sums;
        count = omega (arith, count, rows);
        basic_top = s.basic_top;
        basic = subst (λ (l : List SparseRow). IsBasic (record { rows = l; basics = t.basics })) (sym s.rows) (first_basic t s);
        sums = λ i lt.
            subst (λ (l : List SparseRow). IsSum (first_rows constraints columns s.top) (own_column_of constraints columns) (row_at l i)) (sym s.rows)
            (start_sum constraints columns s.top below s.sums i (omega (arith, count, rows, lt)));
        back = λ m x meets. subst (λ (l : List SparseRow). MeetsRows l m x) s.rows meets;
      }

  -- a point of the new rows is one of the old rows
  points_back : (old new : Tableau) (j i : ℕ) → IsBasic old → IsPivotRow old j i → IsPivoted old j i new → (m : ℤ)
      (x : ℕ → ℤ) →
      MeetsRows new.rows m x → MeetsRows old.rows m x
  points_back old new j i basic row pivoted m x meets =
      let count = pivoted.count in
      let at_pivot : Meets (row_at old.rows i) m x = subst (λ (r : SparseRow). Meets r m x) pivoted.pivot (meets.each i (omega (arith, count, row.within))) in
      record {
        each = λ h lt. elim (cases_eq h i) [
          | inl is ↦ subst (λ (n : ℕ). Meets (row_at old.rows n) m x) (sym is) at_pivot
          | inr other ↦ elim (zero_or_other (entry_at old h j)) [
            | inl none ↦ subst (λ (r : SparseRow). Meets r m x) (pivoted.kept h lt other none) (meets.each h (omega (arith, count, lt)))
            | inr some ↦
                let c = pivoted.cancelled h lt other some in
                let up = first_factor (entry_at old h j) (entry_at old i j) c.u c.v (nonzero (entry_at old i j) row.positive) c.factors in
                gives_back_points (row_at old.rows h) (row_at old.rows i) (row_at new.rows h) c.u c.v m x (nonzero c.u up) c.combination (meets.each h (omega (arith, count, lt))) at_pivot
          ]
        ];
      }

  sound_next : (old new : Tableau) → IsSound constraints columns old → IsNext constraints columns old new →
      IsSound constraints columns new
  sound_next old new s n =
      let count = n.pivoted.count in
      record {
        top = s.top;
        is_top = s.is_top;
        count = count ∙ s.count;
        basic_top = basic_same old new n.column n.row s.basic n.is_row n.pivoted 0 (λ e. absurd (let above = n.is_row.above in omega (arith, e, above))) ∙ s.basic_top;
        basic = basic_stays old new n.column n.row s.basic n.is_row n.pivoted;
        sums = λ h lt.
            rows_keep old new n.column n.row s.basic n.is_row n.pivoted (IsSum (first_rows constraints columns s.top) (own_column_of constraints columns)) s.sums
            (λ g in_g c at_g at_i. sum_combined (first_rows constraints columns s.top) (own_column_of constraints columns) (row_at old.rows g) (row_at old.rows n.row) (row_at new.rows g) c.u c.v c.combination at_g at_i)
            h (omega (arith, count, lt));
        back = λ m x meets. s.back m x (points_back old new n.column n.row s.basic n.is_row n.pivoted m x meets);
      }

  pub sound : {n : ℕ} {t : Tableau} → After constraints columns n t → IsSound constraints columns t
  sound (first t start) = sound_first t start
  sound (next n old new before is) = sound_next old new (sound before) is

  -- a column beyond all
  aside : (t : Tableau) → IsSound constraints columns t → suc (objective constraints columns) ≢ basic_at t 0
  aside t s e = let top = s.basic_top in absurd (omega (arith, e, top))

  still : (t : Tableau) → IsSound constraints columns t → (j i : ℕ) → 0 < i → i < length t.rows →
      pos 0 ≤ℤ (constant_at t i -ℤ (entry_at t i j *ℤ pos 0))
  still t s j i some lt = let up = s.basic.constants i some lt in let none = *ℤ-zero (entry_at t i j) in omega (arith, ints)

  -- the basic point
  pub basic_point : (t : Tableau) → IsSound constraints columns t → Located t (suc (objective constraints columns))
      (pos 0)
  basic_point t s = located t (suc (objective constraints columns)) (pos 0) s.basic (omega (arith, ints)) (still t s (suc (objective constraints columns)))

  -- no point that is not negative elsewhere has a positive objective's column
  pub never_above : (t : Tableau) (j : ℕ) (w : ℤ) → IsSound constraints columns t → j ≢ objective constraints columns →
      Located t j w →
      (constant_at t 0 -ℤ (entry_at t 0 j *ℤ w)) ≤ℤ pos 0
  never_above t j w s other l =
      let count = s.count in
      let down = objective_down constraints columns s.top l.m l.x below s.is_top (s.back l.m l.x l.meets) (λ k differ. l.signs k (λ e. differ (e ∙ s.basic_top))) in
      let first = l.first (omega (arith, count)) (λ e. other (e ∙ s.basic_top)) in
      let moved = ap l.x s.basic_top in
      let less = times_down (entry_at t 0 (basic_at t 0)) (l.x (basic_at t 0)) (omega (arith, ints, s.basic.own 0 (omega (arith, count)))) (omega (arith, ints)) in
      let z = constant_at t 0 -ℤ (entry_at t 0 j *ℤ w) in
      elim (sign_of (neg_ℤ z)) [
        | inl is ↦ omega (arith, ints)
        | inr up ↦ let more = times_positive l.m z l.up (omega (arith, ints)) in absurd (omega (arith, ints))
      ]

  -- row 0's constant is never positive
  pub never_positive : (t : Tableau) → IsSound constraints columns t → constant_at t 0 ≤ℤ pos 0
  never_positive t s =
      let is = never_above t (suc (objective constraints columns)) (pos 0) s (λ e. absurd (omega arith)) (basic_point t s) in
      let none = *ℤ-zero (entry_at t 0 (suc (objective constraints columns))) in
      omega (arith, ints)

  -- where a pivot is needed, some row has a positive entry in its column
  pub some_row : (t : Tableau) (j : ℕ) → IsSound constraints columns t →
      IsPivotColumn t (artificials constraints columns) j →
      ¬ ((i : ℕ) → 0 < i → i < length t.rows → entry_at t i j ≤ℤ pos 0)
  some_row t j s column none =
      let w = pos (suc (unsigned_abs (constant_at t 0))) in
      let other : j ≢ objective constraints columns = λ e. absurd (let lt = column.below in omega (arith, lt, e)) in
      let is = never_above t j w s other
      (located t j w s.basic (omega (arith, ints)) (λ i some lt.
      let up = s.basic.constants i some lt in
      let down = times_down w (entry_at t i j) (omega (arith, ints)) (none i some lt) in
      let turned = *ℤ_comm w (entry_at t i j) in
      omega (arith, ints))) in
      let e = entry_at t 0 j in
      let negative = column.negative in
      let rest = times_up w (neg_ℤ (e +ℤ pos 1)) (omega (arith, ints)) (omega (arith, ints)) in
      let parted = times_negated w (e +ℤ pos 1) in
      let apart = distrib w e (pos 1) in
      let one = times_one w in
      let turned = *ℤ_comm w e in
      let size = least_size (constant_at t 0) in
      absurd (omega (arith, ints))
    where
      least_size : (z : ℤ) → neg_ℤ (pos (unsigned_abs z)) ≤ℤ z
      least_size (pos n) = omega (arith, ints)
      least_size (negsuc n) = omega (arith, ints)
