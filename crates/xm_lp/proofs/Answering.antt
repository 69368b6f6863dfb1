-- The answer of an end whose row 0 has a negative constant.
use Rattle.std.proofs.Common.{◌≡◌, ℕ, zero, suc, ◌+◌, ◌<◌, ◌≤◌, Bool, true, false, List, [], ◌∷◌, length, take, refl}
use Rattle.std.proofs.Common.{sym, ◌∙◌, ap, ap₂, subst, arith, pos, negsuc, ℤ, ◌-ℤ◌, ◌<ℤ◌}
use Rattle.std.specs.Int.{is_negative}
use Rattle.xm_rows.specs.Row.{Fits128}
use Rattle.xm_lp.specs.declared.decision.Con.{Con}
use Rattle.xm_lp.specs.Start.{Tableau, AreBelow, row_at, artificials, objective, signed}
use Rattle.xm_lp.specs.Pivot.{IsLast, entry_at, constant_at}
use Rattle.xm_lp.specs.Answer.{AreMultipliers, constraint_at, number_at, multiplier}
use Rattle.xm_lp.specs.Inner.Refuted.{AreValues, AreDifferences, DifferenceLeaves, AllProductsFit, difference_at}
use Rattle.xm_lp.specs.Rule.{After, HasMultipliers, IsEnd, Leaves, at_multipliers}
use Rattle.xm_lp.proofs.Minusing.{zero_fits}
use Rattle.xm_lp.proofs.Refuting.{refutes}
use Rattle.xm_lp.proofs.Sound.{sound}

taken : (n : ℕ) (values : List ℤ) (k : ℕ) → k < n → number_at (take n values) k ≡ number_at values k
taken zero values k lt = absurd (omega arith)
taken (suc n) [] k lt = refl
taken (suc n) (x ∷ xs) zero lt = refl
taken (suc n) (x ∷ xs) (suc k) lt = taken n xs k (omega arith)

taken_count : (n : ℕ) (values : List ℤ) → n ≤ length values → length (take n values) ≡ n
taken_count zero values le = refl
taken_count (suc n) [] le = absurd (omega arith)
taken_count (suc n) (x ∷ xs) le = let rest = taken_count n xs (omega arith) in omega (arith, rest)

-- a list of the first n values of f
listed : ℕ → (ℕ → ℤ) → List ℤ
listed zero f = []
listed (suc n) f = f 0 ∷ listed n (λ i. f (suc i))

listed_count : (n : ℕ) (f : ℕ → ℤ) → length (listed n f) ≡ n
unfolding listed
listed_count zero f = refl
listed_count (suc n) f = let rest = listed_count n (λ i. f (suc i)) in omega (arith, rest)

listed_each : (n : ℕ) (f : ℕ → ℤ) (i : ℕ) → i < n → number_at (listed n f) i ≡ f i
unfolding listed
listed_each zero f i lt = absurd (omega arith)
listed_each (suc n) f zero lt = refl
listed_each (suc n) f (suc i) lt = listed_each n (λ i. f (suc i)) i (omega arith)

unsigned : (b : Bool) (z : ℤ) → Fits128 (signed b z) → Fits128 z
unsigned true (pos zero) h = h
unsigned true (pos (suc n)) h = h
unsigned true (negsuc n) h = h
unsigned false z h = h

module _ (constraints : List Con) (columns left n first : ℕ) (t : Tableau) (values : List ℤ)
    (below : AreBelow columns constraints) (is_first : first ≡ artificials constraints columns)
    (after : After constraints columns n t) (last : IsLast t first) (negative : constant_at t 0 <ℤ pos 0)
    (within : n ≤ left)
    (are : AreValues (row_at t.rows 0) (first + length constraints + 1) values) where
  is_last : IsLast t (artificials constraints columns)
  is_last = subst (IsLast t) is_first last

  end : IsEnd constraints columns left n t
  end = record { after = after; within = within; last = is_last }

  difference_is : (i : ℕ) → i < length constraints →
      difference_at constraints values first i ≡ (entry_at t 0 (objective constraints columns) -ℤ entry_at t 0 (artificials constraints columns + i))
  difference_is i lt =
      ap₂ ◌-ℤ◌ (are.each (first + length constraints) (omega arith) ∙ ap (λ (k : ℕ). entry_at t 0 (k + length constraints)) is_first)
      (are.each (first + i) (omega arith) ∙ ap (λ (k : ℕ). entry_at t 0 (k + i)) is_first)

  are_lows : (ms : List ℤ) → length ms ≡ length constraints →
      ((i : ℕ) → i < length constraints → number_at ms i ≡ multiplier constraints columns t i) →
      AreMultipliers constraints columns t ms (take columns values)
  are_lows ms count each =
      record {
        count = count;
        each = each;
        low_count = taken_count columns values (let whole = are.count in omega (arith, whole, is_first));
        each_low = λ k lt. taken columns values k lt ∙ are.each k (omega (arith, is_first));
      }

  are_multipliers : (ms : List ℤ) → AreDifferences constraints values first ms →
      AreMultipliers constraints columns t ms (take columns values)
  are_multipliers ms d =
      are_lows ms d.count (λ i lt. d.each i lt ∙ ap (signed (is_negative (constraint_at constraints i).row.constant)) (difference_is i lt))

  pub refuted_by : (ms lows : List ℤ) → AreDifferences constraints values first ms →
      AllProductsFit constraints columns ms → lows ≡ take columns values →
      HasMultipliers constraints columns left n ms lows
  refuted_by ms lows d fit is =
      let s = sound constraints columns below after in
      let m = are_multipliers ms d in
      let count = s.count in
      let right = refutes constraints columns s.top t ms (take columns values) below s.is_top (s.sums 0 (omega (arith, count))) is_last negative m in
      subst (HasMultipliers constraints columns left n ms) (sym is) (record {
        tableau = t;
        end = end;
        negative = negative;
        are = m;
        fit = record {
          each = d.fit;
          entries = fit.entries;
          constants = fit.constants;
          with_lows = λ k lt. subst Fits128 (sym (right.gone k lt)) zero_fits;
        };
      })

  pub products_leave : (ms : List ℤ) → AreDifferences constraints values first ms →
      ¬ AllProductsFit constraints columns ms → Leaves constraints columns left n
  products_leave ms d leaves =
      at_multipliers n t ms (take columns values) end negative (are_multipliers ms d) (λ fit. leaves (record { entries = fit.entries; constants = fit.constants }))

  pub difference_leaves : DifferenceLeaves constraints values first → Leaves constraints columns left n
  difference_leaves leaves =
      let i = leaves.0 in
      let ms = listed (length constraints) (multiplier constraints columns t) in
      let each = listed_each (length constraints) (multiplier constraints columns t) in
      at_multipliers n t ms (take columns values) end negative (are_lows ms (listed_count (length constraints) (multiplier constraints columns t)) each)
      (λ fit. leaves.2 (subst Fits128 (sym (difference_is i leaves.1))
      (unsigned (is_negative (constraint_at constraints i).row.constant) (entry_at t 0 (objective constraints columns) -ℤ entry_at t 0 (artificials constraints columns + i)) (subst Fits128 (each i leaves.1) (fit.each i leaves.1)))))
