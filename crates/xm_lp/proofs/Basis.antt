-- What each pivot keeps: the basic columns, the signs of the constants, the sums, and the points.
use Rattle.std.proofs.Common.{◌≡◌, ◌≢◌, ◌⊎◌, ℕ, zero, suc, ◌<◌, inl, inr, List, length, get_or, refl, sym, ◌∙◌, ap}
use Rattle.std.proofs.Common.{subst, arith, pos, negsuc, neg_ℤ, ℤ, ◌-ℤ◌, ◌*ℤ◌, ◌<ℤ◌, ◌≤ℤ◌}
use Rattle.std.proofs.lemmas.Bool.{cases_eq}
use Rattle.std.proofs.lemmas.Int.{ints}
use Rattle.std.proofs.lemmas.List.{get_or-set_same, get_or-set_other, length-set}
use Rattle.std.proofs.Math.IntN.{*ℤ_comm, *ℤ-zero, zero-*ℤ}
use Rattle.xm_rows.specs.Row.{SparseRow, coefficient}
use Rattle.xm_rows.specs.Combination.{IsCancelled, AreFactors}
use Rattle.xm_rows.specs.Points.{Meets}
use Rattle.xm_rows.specs.Lemmas.Integers.{assoc, one_times, zero_factor, abs_positive, times_difference, crossed}
use Rattle.xm_rows.specs.Lemmas.Factors.{factors_cancel, gcd_positive}
use Rattle.xm_lp.specs.Start.{Tableau, row_at}
use Rattle.xm_lp.specs.Pivot.{entry_at, constant_at, basic_at, ComesFirst, IsPivotRow, IsPivoted}
use Rattle.xm_lp.proofs.Signs.{sign_of, times_up, times_down, times_positive, factor_up, factor_positive, nonzero}

-- the basic columns: positive in their own row, 0 in the others; and no constant below row 0 is negative
pub record IsBasic (t : Tableau) : Type 0 where
  pub count : length t.basics ≡ length t.rows
  pub own : (i : ℕ) → i < length t.rows → pos 0 <ℤ entry_at t i (basic_at t i)
  pub apart : (i h : ℕ) → i < length t.rows → h < length t.rows → h ≢ i → entry_at t h (basic_at t i) ≡ pos 0
  pub constants : (i : ℕ) → 0 < i → i < length t.rows → pos 0 ≤ℤ constant_at t i

-- a row by which another is replaced: d times it is u times that less v times the pivot row, and its entry in column j
-- is gone
pub record IsMixed (old pivot new : SparseRow) (j : ℕ) : Type 0 where
  pub d : ℤ
  pub u : ℤ
  pub v : ℤ
  pub some : pos 0 <ℤ d
  pub up : pos 0 <ℤ u
  pub entries : (k : ℕ) → d *ℤ coefficient new.entries k ≡
      (u *ℤ coefficient old.entries k) -ℤ (v *ℤ coefficient pivot.entries k)
  pub constant : d *ℤ new.constant ≡ (u *ℤ old.constant) -ℤ (v *ℤ pivot.constant)
  pub balance : (u *ℤ coefficient old.entries j) ≡ (v *ℤ coefficient pivot.entries j)
  pub gone : coefficient new.entries j ≡ pos 0

pub first_factor : (a b u v : ℤ) → b ≢ pos 0 → AreFactors a b u v → pos 0 <ℤ u
first_factor a b u v some f =
    let divisor = gcd_positive a b f.divisor some f.greatest in
    let size = abs_positive b some in
    factor_positive (pos f.divisor) u (omega (arith, ints)) (subst (λ (z : ℤ). pos 0 <ℤ z) (sym f.first) (omega (arith, ints)))

pub mixed_by_cancel : (old pivot new : SparseRow) (j : ℕ) → coefficient pivot.entries j ≢ pos 0 →
    IsCancelled old pivot j new → IsMixed old pivot new j
mixed_by_cancel old pivot new j some c =
    let divisor = c.combination.positive in
    let gone = factors_cancel (coefficient old.entries j) (coefficient pivot.entries j) c.u c.v some c.factors in
    record {
      d = pos c.combination.divisor;
      u = c.u;
      v = c.v;
      some = omega (arith, ints);
      up = first_factor (coefficient old.entries j) (coefficient pivot.entries j) c.u c.v some c.factors;
      entries = c.combination.entries;
      constant = c.combination.constant;
      balance = omega (arith, ints);
      gone = zero_factor (pos c.combination.divisor) (coefficient new.entries j) (λ e. absurd (omega (arith, ints))) (c.combination.entries j ∙ gone);
    }

pub mixed_by_keeping : (old pivot new : SparseRow) (j : ℕ) → coefficient old.entries j ≡ pos 0 → new ≡ old →
    IsMixed old pivot new j
mixed_by_keeping old pivot new j none same =
    record {
      d = pos 1;
      u = pos 1;
      v = pos 0;
      some = omega (arith, ints);
      up = omega (arith, ints);
      entries = λ k. kept (coefficient new.entries k) (coefficient old.entries k) (coefficient pivot.entries k) (ap (λ (r : SparseRow). coefficient r.entries k) same);
      constant = kept new.constant old.constant pivot.constant (ap (λ (r : SparseRow). r.constant) same);
      balance = one_times (coefficient old.entries j) ∙ none ∙ sym (zero-*ℤ (coefficient pivot.entries j));
      gone = ap (λ (r : SparseRow). coefficient r.entries j) same ∙ none;
    }
  where
    kept : (a b c : ℤ) → a ≡ b → pos 1 *ℤ a ≡ (pos 1 *ℤ b) -ℤ (pos 0 *ℤ c)
    kept a b c e = let one = one_times a in let two = one_times b in let none = zero-*ℤ c in omega (arith, ints)

pub zero_or_other : (z : ℤ) → (z ≡ pos 0) ⊎ (z ≢ pos 0)
zero_or_other (pos zero) = inl refl
zero_or_other (pos (suc n)) = inr (λ h. absurd (omega (arith, ints)))
zero_or_other (negsuc n) = inr (λ h. absurd (omega (arith, ints)))

-- a mixed row where the pivot row has nothing: a positive part of the old entry
mixed_kept : (old pivot new : SparseRow) (j k : ℕ) → IsMixed old pivot new j → coefficient pivot.entries k ≡ pos 0 →
    coefficient old.entries k ≡ pos 0 → coefficient new.entries k ≡ pos 0
mixed_kept old pivot new j k m none old_none =
    zero_factor m.d (coefficient new.entries k) (nonzero m.d m.some)
    (let first = ap (λ (z : ℤ). m.u *ℤ z) old_none ∙ *ℤ-zero m.u in
    let second = ap (λ (z : ℤ). m.v *ℤ z) none ∙ *ℤ-zero m.v in
    let at = m.entries k in
    omega (arith, ints))

mixed_own : (old pivot new : SparseRow) (j k : ℕ) → IsMixed old pivot new j → coefficient pivot.entries k ≡ pos 0 →
    pos 0 <ℤ coefficient old.entries k → pos 0 <ℤ coefficient new.entries k
mixed_own old pivot new j k m none up =
    factor_positive m.d (coefficient new.entries k) m.some
    (let first = times_positive m.u (coefficient old.entries k) m.up up in
    let second = ap (λ (z : ℤ). m.v *ℤ z) none ∙ *ℤ-zero m.v in
    let at = m.entries k in
    omega (arith, ints))

-- e times (u c - v p) is u times (c e - p a), where u a is v e
exchanged : (e u v c p a : ℤ) → (u *ℤ a) ≡ (v *ℤ e) → e *ℤ ((u *ℤ c) -ℤ (v *ℤ p)) ≡ u *ℤ ((c *ℤ e) -ℤ (p *ℤ a))
exchanged e u v c p a balance =
    let left = times_difference e (u *ℤ c) (v *ℤ p) in
    let right = times_difference u (c *ℤ e) (p *ℤ a) in
    let first = crossed u e c ∙ ap (λ (z : ℤ). u *ℤ z) (*ℤ_comm e c) in
    let second = assoc e v p ∙ ap (λ (z : ℤ). z *ℤ p) (*ℤ_comm e v ∙ sym balance) ∙ sym (assoc u a p) ∙ ap (λ (z : ℤ). u *ℤ z) (*ℤ_comm a p) in
    omega (arith, ints)

-- the constant stays at least 0, where the pivot row comes first
mixed_constant : (old pivot new : SparseRow) (j : ℕ) → IsMixed old pivot new j → pos 0 <ℤ coefficient pivot.entries j →
    pos 0 ≤ℤ old.constant → pos 0 ≤ℤ pivot.constant →
    (pos 0 <ℤ coefficient old.entries j →
    (pivot.constant *ℤ coefficient old.entries j) ≤ℤ (old.constant *ℤ coefficient pivot.entries j)) →
    pos 0 ≤ℤ new.constant
mixed_constant old pivot new j m up old_up pivot_up before =
    let a = coefficient old.entries j in
    let e = coefficient pivot.entries j in
    let c = old.constant in
    let p = pivot.constant in
    let difference : pos 0 ≤ℤ ((c *ℤ e) -ℤ (p *ℤ a)) =
    elim (sign_of (neg_ℤ a)) [
      | inl down ↦
          let first = times_up c e old_up (omega (arith, ints)) in
          let second = times_down p a pivot_up (omega (arith, ints)) in
          omega (arith, ints)
      | inr positive ↦
          let first = before (omega (arith, ints)) in
          omega (arith, ints)
    ] in
    let both = times_up m.u ((c *ℤ e) -ℤ (p *ℤ a)) (omega (arith, ints, m.up)) difference in
    let is = exchanged e m.u m.v c p a m.balance in
    let inner = factor_up e ((m.u *ℤ c) -ℤ (m.v *ℤ p)) up (subst (λ (z : ℤ). pos 0 ≤ℤ z) (sym is) both) in
    factor_up m.d new.constant m.some (subst (λ (z : ℤ). pos 0 ≤ℤ z) (sym m.constant) inner)

module _ (old new : Tableau) (j i : ℕ) (basic : IsBasic old) (row : IsPivotRow old j i)
    (pivoted : IsPivoted old j i new) where
  pub mixed : (h : ℕ) → h < length old.rows → h ≢ i → IsMixed (row_at old.rows h) (row_at old.rows i)
      (row_at new.rows h) j
  mixed h lt other =
      elim (zero_or_other (entry_at old h j)) [
        | inl none ↦ mixed_by_keeping (row_at old.rows h) (row_at old.rows i) (row_at new.rows h) j none (pivoted.kept h lt other none)
        | inr some ↦ mixed_by_cancel (row_at old.rows h) (row_at old.rows i) (row_at new.rows h) j (nonzero (entry_at old i j) row.positive) (pivoted.cancelled h lt other some)
      ]

  pub basic_same : (h : ℕ) → h ≢ i → basic_at new h ≡ basic_at old h
  basic_same h other = ap (λ (l : List ℕ). get_or l h 0) pivoted.basics ∙ get_or-set_other old.basics i h j 0 other

  pub basic_pivot : basic_at new i ≡ j
  basic_pivot =
      let count = basic.count in let within = row.within in
      ap (λ (l : List ℕ). get_or l i 0) pivoted.basics ∙ get_or-set_same old.basics i j 0 (omega (arith, count, within))

  pivot_entry : (k : ℕ) → entry_at new i k ≡ entry_at old i k
  pivot_entry k = ap (λ (r : SparseRow). coefficient r.entries k) pivoted.pivot

  own_stays : (h : ℕ) → h < length old.rows → pos 0 <ℤ entry_at new h (basic_at new h)
  own_stays h lt =
      elim (cases_eq h i) [
        | inl is ↦
            subst (λ (n : ℕ). pos 0 <ℤ entry_at new n (basic_at new n)) (sym is)
            (subst (λ (k : ℕ). pos 0 <ℤ entry_at new i k) (sym basic_pivot)
            (subst (λ (z : ℤ). pos 0 <ℤ z) (sym (pivot_entry j)) row.positive))
        | inr other ↦
            subst (λ (k : ℕ). pos 0 <ℤ entry_at new h k) (sym (basic_same h other))
            (mixed_own (row_at old.rows h) (row_at old.rows i) (row_at new.rows h) j (basic_at old h) (mixed h lt other)
            (basic.apart h i lt row.within (λ e. other (sym e))) (basic.own h lt))
      ]

  -- row h at the basic column of another row g
  apart_stays : (g h : ℕ) → g < length old.rows → h < length old.rows → h ≢ g → entry_at new h (basic_at new g) ≡ pos 0
  apart_stays g h in_g in_h differ =
      elim (cases_eq g i) [
        | inl g_is ↦
            let other : h ≢ i = λ e. differ (e ∙ sym g_is) in
            ap (entry_at new h) (ap (basic_at new) g_is ∙ basic_pivot) ∙ (mixed h in_h other).gone
        | inr g_other ↦
            ap (entry_at new h) (basic_same g g_other)
            ∙ elim (cases_eq h i) [
              | inl h_is ↦ ap (λ (n : ℕ). entry_at new n (basic_at old g)) h_is ∙ pivot_entry (basic_at old g) ∙ basic.apart g i in_g row.within (λ e. g_other (sym e))
              | inr h_other ↦
                  mixed_kept (row_at old.rows h) (row_at old.rows i) (row_at new.rows h) j (basic_at old g) (mixed h in_h h_other)
                  (basic.apart g i in_g row.within (λ e. g_other (sym e))) (basic.apart g h in_g in_h differ)
            ]
      ]

  constants_stay : (h : ℕ) → 0 < h → h < length old.rows → pos 0 ≤ℤ constant_at new h
  constants_stay h some lt =
      elim (cases_eq h i) [
        | inl is ↦
            subst (λ (z : ℤ). pos 0 ≤ℤ z) (sym (ap (constant_at new) is ∙ ap (λ (r : SparseRow). r.constant) pivoted.pivot)) (basic.constants i row.above row.within)
        | inr other ↦
            mixed_constant (row_at old.rows h) (row_at old.rows i) (row_at new.rows h) j (mixed h lt other) row.positive
            (basic.constants h some lt) (basic.constants i row.above row.within) (λ up. before (row.first h some lt up))
      ]
    where
      before : ComesFirst old j i h → (constant_at old i *ℤ entry_at old h j) ≤ℤ (constant_at old h *ℤ entry_at old i j)
      before (inl less) = omega (arith, ints, less)
      before (inr same) = let e = same.0 in omega (arith, ints)

  pub basic_stays : IsBasic new
  basic_stays =
      let count = pivoted.count in
      record {
        count = ap (λ (l : List ℕ). length l) pivoted.basics ∙ length-set old.basics i j ∙ basic.count ∙ sym count;
        own = λ h lt. own_stays h (omega (arith, count, lt));
        apart = λ g h in_g in_h differ. apart_stays g h (omega (arith, count, in_g)) (omega (arith, count, in_h)) differ;
        constants = λ h some lt. constants_stay h some (omega (arith, count, lt));
      }

  -- a property of rows that combinations keep
  pub rows_keep : (P : SparseRow → Type 0) → ((h : ℕ) → h < length old.rows → P (row_at old.rows h)) →
      ((h : ℕ) → h < length old.rows → IsCancelled (row_at old.rows h) (row_at old.rows i) j (row_at new.rows h) →
      P (row_at old.rows h) → P (row_at old.rows i) → P (row_at new.rows h)) →
      (h : ℕ) → h < length old.rows → P (row_at new.rows h)
  rows_keep P all step h lt =
      elim (cases_eq h i) [
        | inl is ↦ subst (λ (n : ℕ). P (row_at new.rows n)) (sym is) (subst P (sym pivoted.pivot) (all i row.within))
        | inr other ↦
            elim (zero_or_other (entry_at old h j)) [
              | inl none ↦ subst P (sym (pivoted.kept h lt other none)) (all h lt)
              | inr some ↦ step h lt (pivoted.cancelled h lt other some) (all h lt) (all i row.within)
            ]
      ]

-- x meets all rows, with their constants taken m times
pub record MeetsRows (rows : List SparseRow) (m : ℤ) (x : ℕ → ℤ) : Type 0 where
  pub each : (i : ℕ) → i < length rows → Meets (row_at rows i) m x
