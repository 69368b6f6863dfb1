-- The rule is determined: a tableau has one pivot, a pivot one result, and so the rule one answer at most.
use Rattle.std.proofs.Common.{◌≡◌, ◌≢◌, ◌⊎◌, ℕ, zero, suc, ◌<◌, ◌≤◌, inl, inr, List, [], ◌∷◌, length, refl, sym, ◌∙◌}
use Rattle.std.proofs.Common.{ap, ap₂, subst, arith, pos, ℤ, ◌*ℤ◌, ◌<ℤ◌, Ok, Err}
use Rattle.std.specs.Prelude.{slice_index}
use Rattle.std.proofs.lemmas.Bool.{cases_eq, cases_order, cases_lt}
use Rattle.std.proofs.lemmas.Int.{ints}
use Rattle.xm_rows.specs.Row.{SparseRow, IsRow, coefficient}
use Rattle.xm_rows.specs.Lemmas.Integers.{one_factor}
use Rattle.xm_rows.specs.Lemmas.Unique.{numbers, same_numbers, one_cancelled}
use Rattle.xm_rows.specs.Lemmas.Unique.{never_both}
use Rattle.xm_lp.specs.declared.decision.Con.{Con}
use Rattle.xm_lp.specs.declared.decision.Decision.TheVariants.{Infeasible, Point, Spent}
use Rattle.xm_lp.specs.declared.decision.LpFault.TheVariants.{Overflow, OutOfMemory}
use Rattle.xm_lp.specs.Start.{Tableau, AreBelow, IsStart, IsTop, SumsFit, row_at, artificials, objective, start_rows}
use Rattle.xm_lp.specs.Pivot.{IsPivotColumn, IsPivotRow, IsPivoted, IsLast, PivotLeaves, Precedes, entry_at}
use Rattle.xm_lp.specs.Pivot.{constant_at, basic_at}
use Rattle.xm_lp.specs.Answer.{number_at, AreMultipliers, MultipliersFit, AreCounts, CountsFit}
use Rattle.xm_lp.specs.Rule.{After, first, next, IsNext, IsEnd, NeedsMore, HasMultipliers, HasCounts, Leaves, at_start}
use Rattle.xm_lp.specs.Rule.{at_pivot, at_multipliers, at_counts}
use Rattle.xm_lp.specs.Laws.{RuleIsExact}
use Rattle.xm_lp.proofs.Signs.{nonzero}
use Rattle.xm_lp.proofs.Basis.{IsBasic, zero_or_other}
use Rattle.xm_lp.proofs.Points.{basics_differ}
use Rattle.xm_lp.proofs.Sound.{sound}

-- ---- lists

same_rows : (xs ys : List SparseRow) → length xs ≡ length ys → ((i : ℕ) → i < length xs → row_at xs i ≡ row_at ys i) →
    xs ≡ ys
same_rows [] [] len h = refl
same_rows [] (y ∷ ys) len h = absurd (omega arith)
same_rows (x ∷ xs) [] len h = absurd (omega arith)
same_rows (x ∷ xs) (y ∷ ys) len h = ap₂ (λ (z : SparseRow) (zs : List SparseRow). z ∷ zs) (h 0 (omega arith)) (same_rows xs ys (omega arith) (λ i lt. h (suc i) (omega arith)))

same_columns : (xs ys : List ℕ) → length xs ≡ length ys →
    ((i : ℕ) → i < length xs → slice_index xs i ≡ slice_index ys i) → xs ≡ ys
same_columns [] [] len h = refl
same_columns [] (y ∷ ys) len h = absurd (omega arith)
same_columns (x ∷ xs) [] len h = absurd (omega arith)
same_columns (x ∷ xs) (y ∷ ys) len h = ap₂ (λ (z : ℕ) (zs : List ℕ). z ∷ zs) (h 0 (omega arith)) (same_columns xs ys (omega arith) (λ i lt. h (suc i) (omega arith)))

same_values : (xs ys : List ℤ) → length xs ≡ length ys → ((i : ℕ) → i < length xs → number_at xs i ≡ number_at ys i) →
    xs ≡ ys
same_values [] [] len h = refl
same_values [] (y ∷ ys) len h = absurd (omega arith)
same_values (x ∷ xs) [] len h = absurd (omega arith)
same_values (x ∷ xs) (y ∷ ys) len h = ap₂ (λ (z : ℤ) (zs : List ℤ). z ∷ zs) (h 0 (omega arith)) (same_values xs ys (omega arith) (λ i lt. h (suc i) (omega arith)))

tableau_is : (t u : Tableau) → t.rows ≡ u.rows → t.basics ≡ u.basics → t ≡ u
tableau_is t u p q = ap₂ (λ (rs : List SparseRow) (bs : List ℕ). tableau rs bs) p q
  where
    tableau : List SparseRow → List ℕ → Tableau
    tableau rs bs = record { rows = rs; basics = bs }

-- ---- one start

one_top : (rows : List SparseRow) (a o : ℕ) (top other : SparseRow) → IsRow top → IsRow other → IsTop rows a o top →
    IsTop rows a o other → top ≡ other
one_top rows a o top other row row' p q = same_numbers top other row row' by_number
  where
    by_number : (k : ℕ) → numbers top k ≡ numbers other k
    by_number zero = p.constant ∙ sym q.constant
    by_number (suc k) =
        elim (cases_lt k a) [
          | inl below ↦ p.sums k below ∙ sym (q.sums k below)
          | inr past ↦ elim (cases_eq k o) [
            | inl is ↦ ap (coefficient top.entries) is ∙ p.own ∙ sym q.own ∙ sym (ap (coefficient other.entries) is)
            | inr differ ↦ p.others k (omega arith) differ ∙ sym (q.others k (omega arith) differ)
          ]
        ]

one_start : (constraints : List Con) (columns : ℕ) (t u : Tableau) → IsStart constraints columns t →
    IsStart constraints columns u → t ≡ u
one_start constraints columns t u p q =
    tableau_is t u
    (p.rows ∙ ap (λ (r : SparseRow). r ∷ start_rows columns (artificials constraints columns) constraints)
    (one_top (start_rows columns (artificials constraints columns) constraints) (artificials constraints columns) (objective constraints columns) p.top q.top p.is_row q.is_row p.sums q.sums) ∙ sym q.rows)
    (same_columns t.basics u.basics (p.basic_count ∙ sym q.basic_count) by_index)
  where
    by_index : (i : ℕ) → i < length t.basics → slice_index t.basics i ≡ slice_index u.basics i
    by_index zero lt = p.basic_top ∙ sym q.basic_top
    by_index (suc i) lt = let within : i < length constraints = let count = p.basic_count in omega (arith, count, lt) in p.basic_rows i within ∙ sym (q.basic_rows i within)

-- ---- one pivot

one_column : (t : Tableau) (a i j : ℕ) → IsPivotColumn t a i → IsPivotColumn t a j → i ≡ j
one_column t a i j p q =
    elim (cases_order i j) [
      | inl same ↦ same
      | inr u ↦ elim u [
        | inl below ↦ let up = q.least i below in let down = p.negative in absurd (omega (arith, ints, up, down))
        | inr above ↦ let up = p.least j above in let down = q.negative in absurd (omega (arith, ints, up, down))
      ]
    ]

both_before : (c e d f : ℤ) (x y : ℕ) → Precedes c e x d f y → Precedes d f y c e x → x ≡ y
both_before c e d f x y (inl less) (inl more) = absurd (omega (arith, ints, less, more))
both_before c e d f x y (inl less) (inr same) = absurd (let is = same.0 in omega (arith, ints, less, is))
both_before c e d f x y (inr same) (inl less) = absurd (let is = same.0 in omega (arith, ints, less, is))
both_before c e d f x y (inr same) (inr again) = let low = same.1 in let high = again.1 in omega (arith, low, high)

one_row : (t : Tableau) (j h i : ℕ) → IsBasic t → IsPivotRow t j h → IsPivotRow t j i → h ≡ i
one_row t j h i basic p q =
    elim (cases_eq h i) [
      | inl same ↦ same
      | inr other ↦ absurd (basics_differ t h i basic p.within q.within other
          (both_before (constant_at t h) (entry_at t h j) (constant_at t i) (entry_at t i j) (basic_at t h) (basic_at t i)
          (p.first i q.above q.within q.positive) (q.first h p.above p.within p.positive)))
    ]

one_pivoted : (old new other : Tableau) (j i : ℕ) → pos 0 <ℤ entry_at old i j → IsPivoted old j i new →
    IsPivoted old j i other → new ≡ other
one_pivoted old new other j i some p q =
    tableau_is new other (same_rows new.rows other.rows (p.count ∙ sym q.count) (λ h lt. let whole = p.count in by_row h (omega (arith, whole, lt)))) (p.basics ∙ sym q.basics)
  where
    by_row : (h : ℕ) → h < length old.rows → row_at new.rows h ≡ row_at other.rows h
    by_row h lt =
        elim (cases_eq h i) [
          | inl is ↦ ap (row_at new.rows) is ∙ p.pivot ∙ sym q.pivot ∙ sym (ap (row_at other.rows) is)
          | inr differ ↦ elim (zero_or_other (entry_at old h j)) [
            | inl none ↦ p.kept h lt differ none ∙ sym (q.kept h lt differ none)
            | inr entry ↦
                one_cancelled (row_at old.rows h) (row_at old.rows i) j (row_at new.rows h) (row_at other.rows h) (nonzero (entry_at old i j) some)
                (p.are_rows h lt differ entry) (q.are_rows h lt differ entry) (p.cancelled h lt differ entry) (q.cancelled h lt differ entry)
          ]
        ]

-- a pivot that is made does not leave 128 bits
made_fits : (old new : Tableau) (j i : ℕ) → pos 0 <ℤ entry_at old i j → IsPivoted old j i new → ¬ PivotLeaves old j i
made_fits old new j i some p leaves =
    let h = leaves.0 in
    never_both (row_at old.rows h) (row_at old.rows i) j (row_at new.rows h) (nonzero (entry_at old i j) some) (p.cancelled h leaves.1 leaves.2 leaves.3) leaves.4

module _ (constraints : List Con) (columns : ℕ) (below : AreBelow columns constraints) where
  one_next : (n : ℕ) (old new other : Tableau) → After constraints columns n old → IsNext constraints columns old new →
      IsNext constraints columns old other → new ≡ other
  one_next n old new other after p q =
      let column = one_column old (artificials constraints columns) q.column p.column q.is_column p.is_column in
      let moved = subst (λ (j : ℕ). IsPivotRow old j q.row) column q.is_row in
      let row = one_row old p.column q.row p.row (sound constraints columns below after).basic moved p.is_row in
      one_pivoted old new other p.column p.row p.is_row.positive p.pivoted
      (subst (λ (i : ℕ). IsPivoted old p.column i other) row (subst (λ (j : ℕ). IsPivoted old j q.row other) column q.pivoted))

  one_after : (n : ℕ) (t u : Tableau) → After constraints columns n t → After constraints columns n u → t ≡ u
  one_after _ _ _ (first t p) (first u q) = one_start constraints columns t u p q
  one_after _ _ _ (next n old t before is) (next m other u before' is') =
      let same = one_after n old other before before' in
      one_next n old t u before is (subst (λ (x : Tableau). IsNext constraints columns x u) (sym same) is')

  -- a tableau before the last one has a next
  record HasNext (n : ℕ) : Type 0 where
    pub old : Tableau
    pub new : Tableau
    pub after : After constraints columns n old
    pub is : IsNext constraints columns old new

  next_before : (n m : ℕ) (t : Tableau) → After constraints columns m t → n < m → HasNext n
  next_before n _ _ (first t p) lt = absurd (omega arith)
  next_before n _ _ (next m old t before is) lt =
      elim (cases_eq n m) [
        | inl same ↦ subst HasNext (sym same) (record { old = old; new = t; after = before; is = is })
        | inr other ↦ next_before n m old before (omega arith)
      ]

  fits_first : (n : ℕ) (t : Tableau) → After constraints columns n t →
      SumsFit (start_rows columns (artificials constraints columns) constraints) (artificials constraints columns)
  fits_first _ _ (first t p) = p.fits
  fits_first _ _ (next n old t before is) = fits_first n old before

  -- ---- one stop

  -- why no further pivot is made: none is needed, none is left, or the next leaves 128 bits
  data Halts (left n : ℕ) (t : Tableau) : Type 0 where
    ends : IsLast t (artificials constraints columns) → Halts left n t
    runs_out : n ≡ left → (j : ℕ) → IsPivotColumn t (artificials constraints columns) j → Halts left n t
    grows : n < left → (j i : ℕ) → IsPivotColumn t (artificials constraints columns) j → IsPivotRow t j i →
        PivotLeaves t j i → Halts left n t

  record IsStop (left n : ℕ) (t : Tableau) : Type 0 where
    pub after : After constraints columns n t
    pub within : n ≤ left
    pub halts : Halts left n t

  never_last : (t : Tableau) (j : ℕ) → IsLast t (artificials constraints columns) →
      ¬ IsPivotColumn t (artificials constraints columns) j
  never_last t j last column = let up = last j column.below in let down = column.negative in absurd (omega (arith, ints, up, down))

  no_next : (left n m : ℕ) (t new : Tableau) → After constraints columns n t → Halts left n t → n < m → m ≤ left →
      ¬ IsNext constraints columns t new
  no_next left n m t new after (ends last) lt within is = never_last t is.column last is.is_column
  no_next left n m t new after (runs_out all j column) lt within is = absurd (omega arith)
  no_next left n m t new after (grows few j i column row leaves) lt within is =
      let same_column = one_column t (artificials constraints columns) is.column j is.is_column column in
      let moved = subst (λ (k : ℕ). IsPivotRow t k is.row) same_column is.is_row in
      let same_row = one_row t j is.row i (sound constraints columns below after).basic moved row in
      let pivoted = subst (λ (h : ℕ). IsPivoted t j h new) same_row (subst (λ (k : ℕ). IsPivoted t k is.row new) same_column is.pivoted) in
      made_fits t new j i row.positive pivoted leaves

  not_before : (left n m : ℕ) (t u : Tableau) → IsStop left n t → IsStop left m u → ¬ (n < m)
  not_before left n m t u p q lt =
      let s = next_before n m u q.after lt in
      no_next left n m t s.new p.after p.halts lt q.within (subst (λ (x : Tableau). IsNext constraints columns x s.new) (one_after n s.old t s.after p.after) s.is)

  one_stop : (left n m : ℕ) (t u : Tableau) → IsStop left n t → IsStop left m u → n ≡ m
  one_stop left n m t u p q =
      elim (cases_order n m) [
        | inl same ↦ same
        | inr w ↦ elim w [ inl less ↦ absurd (not_before left n m t u p q less) | inr more ↦ absurd (not_before left m n u t q p more) ]
      ]

  same_stop : (left n m : ℕ) (t u : Tableau) → IsStop left n t → IsStop left m u → t ≡ u
  same_stop left n m t u p q = one_after m t u (subst (λ (k : ℕ). After constraints columns k t) (one_stop left n m t u p q) p.after) q.after

  end_stop : (left n : ℕ) (t : Tableau) → IsEnd constraints columns left n t → IsStop left n t
  end_stop left n t e = record { after = e.after; within = e.within; halts = ends e.last }

  more_stop : (left n : ℕ) (m : NeedsMore constraints columns left n) → IsStop left n m.tableau
  more_stop left n m = record { after = m.after; within = (let all = m.all in omega (arith, all)); halts = runs_out m.all m.column m.needed }

  record Stopped (left n : ℕ) : Type 0 where
    pub tableau : Tableau
    pub is : IsStop left n tableau

  stopped : (left n : ℕ) → Leaves constraints columns left n →
      ((n ≡ 0) × ¬ SumsFit (start_rows columns (artificials constraints columns) constraints)
      (artificials constraints columns)) ⊎ Stopped left n
  stopped left _ (at_start leaves) = inl (refl, leaves)
  stopped left _ (at_pivot n t j i after lt column row leaves) =
      inr (record { tableau = t; is = record { after = after; within = omega arith; halts = grows lt j i column row leaves } })
  stopped left _ (at_multipliers n t ms lows e negative are leaves) = inr (record { tableau = t; is = end_stop left n t e })
  stopped left _ (at_counts n t d counts e none are leaves) = inr (record { tableau = t; is = end_stop left n t e })

  end_more : (left n m : ℕ) (t : Tableau) → IsEnd constraints columns left n t → ¬ NeedsMore constraints columns left m
  end_more left n m t e more =
      let same = same_stop left n m t more.tableau (end_stop left n t e) (more_stop left m more) in
      never_last more.tableau more.column (subst (λ (x : Tableau). IsLast x (artificials constraints columns)) same e.last) more.needed

  -- ---- one refutation, and one point

  one_refutation : (t : Tableau) (ms lows ms' lows' : List ℤ) → AreMultipliers constraints columns t ms lows →
      AreMultipliers constraints columns t ms' lows' → (ms ≡ ms') × (lows ≡ lows')
  one_refutation t ms lows ms' lows' p q = (
    same_values ms ms' (p.count ∙ sym q.count) (λ i lt. let within : i < length constraints = let count = p.count in omega (arith, count, lt) in p.each i within ∙ sym (q.each i within)),
    same_values lows lows' (p.low_count ∙ sym q.low_count) (λ k lt. let within : k < columns = let count = p.low_count in omega (arith, count, lt) in p.each_low k within ∙ sym (q.each_low k within)),
  )

  basic_or_not : (t : Tableau) (k n : ℕ) → ((i : ℕ) × (i < n) × (basic_at t i ≡ k)) ⊎ ((i : ℕ) → i < n →
      basic_at t i ≢ k)
  basic_or_not t k zero = inr (λ i lt. absurd (omega arith))
  basic_or_not t k (suc n) =
      elim (cases_eq (basic_at t n) k) [
        | inl is ↦ inl (n, omega arith, is)
        | inr other ↦ elim (basic_or_not t k n) [
          | inl w ↦ inl (w.0, (let lt = w.1 in omega (arith, lt)), w.2)
          | inr none ↦ inr (λ i lt. elim (cases_eq i n) [
            | inl same ↦ subst (λ (h : ℕ). basic_at t h ≢ k) (sym same) other
            | inr differ ↦ none i (omega arith)
          ])
        ]
      ]

  one_denominator : (t : Tableau) (d d' : ℕ) (counts counts' : List ℤ) → AreCounts columns t d counts →
      AreCounts columns t d' counts' → d ≡ d'
  one_denominator t d d' counts counts' p q =
      let low = p.least d' q.positive q.whole in
      let high = q.least d p.positive p.whole in
      omega (arith, low, high)

  one_counts : (t : Tableau) (d d' : ℕ) (counts counts' : List ℤ) → IsBasic t → AreCounts columns t d counts →
      AreCounts columns t d' counts' → counts ≡ counts'
  one_counts t d d' counts counts' basic p q =
      same_values counts counts' (p.count ∙ sym q.count) (λ k lt. let count = p.count in at_column k (omega (arith, count, lt)))
    where
      at_column : (k : ℕ) → k < columns → number_at counts k ≡ number_at counts' k
      at_column k lt =
          elim (basic_or_not t k (length t.rows)) [
            | inl w ↦
                let i = w.0 in
                let given = subst (λ (h : ℕ). h < columns) (sym w.2) lt in
                let same = one_denominator t d d' counts counts' p q in
                let equal = one_factor (entry_at t i (basic_at t i)) (number_at counts (basic_at t i)) (number_at counts' (basic_at t i)) (nonzero (entry_at t i (basic_at t i)) (basic.own i w.1))
                (p.basic i w.1 given ∙ ap (λ (e : ℕ). pos e *ℤ constant_at t i) same ∙ sym (q.basic i w.1 given)) in
                subst (λ (h : ℕ). number_at counts h ≡ number_at counts' h) w.2 equal
            | inr none ↦ p.others k lt none ∙ sym (q.others k lt none)
          ]

  -- ---- one answer

  both_refuted : (left n m : ℕ) (ms lows ms' lows' : List ℤ) → HasMultipliers constraints columns left n ms lows →
      HasMultipliers constraints columns left m ms' lows' → (ms ≡ ms') × (lows ≡ lows') × (n ≡ m)
  both_refuted left n m ms lows ms' lows' p q =
      let one = end_stop left n p.tableau p.end in
      let two = end_stop left m q.tableau q.end in
      let same = same_stop left n m p.tableau q.tableau one two in
      let lists = one_refutation q.tableau ms lows ms' lows' (subst (λ (x : Tableau). AreMultipliers constraints columns x ms lows) same p.are) q.are in
      (lists.0, lists.1, one_stop left n m p.tableau q.tableau one two)

  both_pointed : (left n m : ℕ) (d d' : ℤ) (counts counts' : List ℤ) → HasCounts constraints columns left n d counts →
      HasCounts constraints columns left m d' counts' → (d ≡ d') × (counts ≡ counts') × (n ≡ m)
  both_pointed left n m d d' counts counts' p q =
      let one = end_stop left n p.tableau p.end in
      let two = end_stop left m q.tableau q.end in
      let same = same_stop left n m p.tableau q.tableau one two in
      let are = subst (λ (x : Tableau). AreCounts columns x p.value counts) same p.are in (
        p.is ∙ ap pos (one_denominator q.tableau p.value q.value counts counts' are q.are) ∙ sym q.is,
        one_counts q.tableau p.value q.value counts counts' (sound constraints columns below q.end.after).basic are q.are,
        one_stop left n m p.tableau q.tableau one two,
      )

  signs_differ : (left n m : ℕ) (t u : Tableau) → IsEnd constraints columns left n t →
      IsEnd constraints columns left m u → constant_at t 0 <ℤ pos 0 → ¬ (constant_at u 0 ≡ pos 0)
  signs_differ left n m t u p q negative none =
      let same = ap (λ (x : Tableau). constant_at x 0) (same_stop left n m t u (end_stop left n t p) (end_stop left m u q)) in
      absurd (omega (arith, ints, same, negative, none))

  refuted_leaves : (left n m : ℕ) (ms lows : List ℤ) → HasMultipliers constraints columns left n ms lows →
      ¬ Leaves constraints columns left m
  refuted_leaves left n _ ms lows p (at_start leaves) = leaves (fits_first n p.tableau p.end.after)
  refuted_leaves left n _ ms lows p (at_pivot m t j i after lt column row leaves) =
      let stop : IsStop left m t = record { after = after; within = omega arith; halts = grows lt j i column row leaves } in
      let same = same_stop left n m p.tableau t (end_stop left n p.tableau p.end) stop in
      never_last t j (subst (λ (x : Tableau). IsLast x (artificials constraints columns)) same p.end.last) column
  refuted_leaves left n _ ms lows p (at_multipliers m t ms' lows' e negative are leaves) =
      let same = same_stop left n m p.tableau t (end_stop left n p.tableau p.end) (end_stop left m t e) in
      let lists = one_refutation t ms lows ms' lows' (subst (λ (x : Tableau). AreMultipliers constraints columns x ms lows) same p.are) are in
      leaves (subst (λ (l : List ℤ). MultipliersFit constraints columns ms' l) lists.1 (subst (λ (l : List ℤ). MultipliersFit constraints columns l lows) lists.0 p.fit))
  refuted_leaves left n _ ms lows p (at_counts m t d counts e none are leaves) = signs_differ left n m p.tableau t p.end e p.negative none

  pointed_leaves : (left n m : ℕ) (d : ℤ) (counts : List ℤ) → HasCounts constraints columns left n d counts →
      ¬ Leaves constraints columns left m
  pointed_leaves left n _ d counts p (at_start leaves) = leaves (fits_first n p.tableau p.end.after)
  pointed_leaves left n _ d counts p (at_pivot m t j i after lt column row leaves) =
      let stop : IsStop left m t = record { after = after; within = omega arith; halts = grows lt j i column row leaves } in
      let same = same_stop left n m p.tableau t (end_stop left n p.tableau p.end) stop in
      never_last t j (subst (λ (x : Tableau). IsLast x (artificials constraints columns)) same p.end.last) column
  pointed_leaves left n _ d counts p (at_multipliers m t ms lows e negative are leaves) = signs_differ left m n t p.tableau e p.end negative p.zero
  pointed_leaves left n _ d counts p (at_counts m t d' counts' e none are leaves) =
      let same = same_stop left n m p.tableau t (end_stop left n p.tableau p.end) (end_stop left m t e) in
      let mine = subst (λ (x : Tableau). AreCounts columns x p.value counts) same p.are in
      let one = one_denominator t p.value d' counts counts' mine are in
      let two = one_counts t p.value d' counts counts' (sound constraints columns below e.after).basic mine are in
      leaves (subst (λ (l : List ℤ). CountsFit d' l) two (subst (λ (k : ℕ). CountsFit k counts) one p.fit))

  more_leaves : (left n m : ℕ) → NeedsMore constraints columns left n → ¬ Leaves constraints columns left m
  more_leaves left n _ p (at_start leaves) = leaves (fits_first n p.tableau p.after)
  more_leaves left n _ p (at_pivot m t j i after lt column row leaves) =
      let stop : IsStop left m t = record { after = after; within = omega arith; halts = grows lt j i column row leaves } in
      let same = one_stop left n m p.tableau t (more_stop left n p) stop in
      let all = p.all in
      absurd (omega (arith, same, all, lt))
  more_leaves left n _ p (at_multipliers m t ms lows e negative are leaves) = end_more left m n t e p
  more_leaves left n _ p (at_counts m t d counts e none are leaves) = end_more left m n t e p

  both_leave : (left n m : ℕ) → Leaves constraints columns left n → Leaves constraints columns left m → n ≡ m
  both_leave left n m p q =
      elim (stopped left n p) [
        | inl at_first ↦ elim (stopped left m q) [
          | inl again ↦ at_first.0 ∙ sym again.0
          | inr stop ↦ absurd (at_first.1 (fits_first m stop.tableau stop.is.after))
        ]
        | inr stop ↦ elim (stopped left m q) [
          | inl at_first ↦ absurd (at_first.1 (fits_first n stop.tableau stop.is.after))
          | inr other ↦ one_stop left n m stop.tableau other.tableau stop.is other.is
        ]
      ]

pub rule_exact : RuleIsExact
rule_exact constraints columns left (Err OutOfMemory) other below p q = tt
rule_exact constraints columns left (Ok (Infeasible m l n)) (Err OutOfMemory) below p q = tt
rule_exact constraints columns left (Ok (Point d c n)) (Err OutOfMemory) below p q = tt
rule_exact constraints columns left (Ok (Spent n)) (Err OutOfMemory) below p q = tt
rule_exact constraints columns left (Err (Overflow n)) (Err OutOfMemory) below p q = tt
rule_exact constraints columns left (Ok (Infeasible m l n)) (Ok (Infeasible m' l' n')) below p q = both_refuted constraints columns below left n n' m.items l.items m'.items l'.items p q
rule_exact constraints columns left (Ok (Infeasible m l n)) (Ok (Point d c n')) below p q = signs_differ constraints columns below left n n' p.tableau q.tableau p.end q.end p.negative q.zero
rule_exact constraints columns left (Ok (Infeasible m l n)) (Ok (Spent n')) below p q = end_more constraints columns below left n n' p.tableau p.end q
rule_exact constraints columns left (Ok (Infeasible m l n)) (Err (Overflow n')) below p q = refuted_leaves constraints columns below left n n' m.items l.items p q
rule_exact constraints columns left (Ok (Point d c n)) (Ok (Infeasible m l n')) below p q = signs_differ constraints columns below left n' n q.tableau p.tableau q.end p.end q.negative p.zero
rule_exact constraints columns left (Ok (Point d c n)) (Ok (Point d' c' n')) below p q = both_pointed constraints columns below left n n' d d' c.items c'.items p q
rule_exact constraints columns left (Ok (Point d c n)) (Ok (Spent n')) below p q = end_more constraints columns below left n n' p.tableau p.end q
rule_exact constraints columns left (Ok (Point d c n)) (Err (Overflow n')) below p q = pointed_leaves constraints columns below left n n' d c.items p q
rule_exact constraints columns left (Ok (Spent n)) (Ok (Infeasible m l n')) below p q = end_more constraints columns below left n' n q.tableau q.end p
rule_exact constraints columns left (Ok (Spent n)) (Ok (Point d c n')) below p q = end_more constraints columns below left n' n q.tableau q.end p
rule_exact constraints columns left (Ok (Spent n)) (Ok (Spent n')) below p q = p.all ∙ sym q.all
rule_exact constraints columns left (Ok (Spent n)) (Err (Overflow n')) below p q = more_leaves constraints columns below left n n' p q
rule_exact constraints columns left (Err (Overflow n)) (Ok (Infeasible m l n')) below p q = refuted_leaves constraints columns below left n' n m.items l.items q p
rule_exact constraints columns left (Err (Overflow n)) (Ok (Point d c n')) below p q = pointed_leaves constraints columns below left n' n d c.items q p
rule_exact constraints columns left (Err (Overflow n)) (Ok (Spent n')) below p q = more_leaves constraints columns below left n' n q p
rule_exact constraints columns left (Err (Overflow n)) (Err (Overflow n')) below p q = both_leave constraints columns below left n n' p q
