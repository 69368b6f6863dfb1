-- The objective's row, entry by entry.
use Rattle.std.proofs.Common.{◌≡◌, ◌≢◌, ◌⊎◌, ℕ, zero, suc, ◌+◌, ◌<◌, ◌≤◌, inl, inr, List, [], ◌∷◌, ◌++◌, length, take}
use Rattle.std.proofs.Common.{get_or, refl, sym, ◌∙◌, ap, subst, arith, pos, negsuc, neg_ℤ, ℤ, ◌+ℤ◌, ◌*ℤ◌, All}
use Rattle.std.proofs.lemmas.Bool.{cases_eq, cases_lt}
use Rattle.std.proofs.Common.{to_z, of_z, SFits, ◌-ℤ◌}
use Rattle.std.specs.Int.{w128}
use Rattle.std.proofs.lemmas.Int.{ints, to_z-of_z, fits_signed_from_abs}
use Rattle.std.proofs.lemmas.List.{take_more, take_all}
use Rattle.std.proofs.lemmas.List.Elements.{All-nil, All-push, All-weaker, All-head, All-tail}
use Rattle.xm_rows.specs.declared.row.Entry.{Entry}
use Rattle.xm_rows.specs.Row.{SparseRow, Fits128, IsRising, IsRow, coefficient}
use Rattle.xm_rows.specs.Lemmas.Entries.{own_column, other_column, coefficient-append, coefficient_absent, rising_push}
use Rattle.xm_rows.specs.Lemmas.Entries.{rising_tail, first_coefficient, later_coefficient}
use Rattle.xm_rows.specs.Lemmas.Integers.{one_times}
use Rattle.xm_lp.specs.Start.{SumsFit, total, in_column, constant_of}
use Rattle.xm_lp.specs.Answer.{number_at}
use Rattle.xm_lp.specs.Lemmas.Tally.{AreAdded, AddingLeaves}
use Rattle.xm_lp.specs.Inner.Minus.{AreMinus, IsTopOf}

-- the entries for the sums below i
pub record AreMinusBelow (sums : List ℤ) (i : ℕ) (es : List Entry) : Type 0 where
  pub rising : IsRising es
  pub nonzero : All (λ e. e.value ≢ pos 0) es
  pub fit : All (λ e. Fits128 e.value) es
  pub below : All (λ e. e.column < i) es
  pub each : (k : ℕ) → k < i → coefficient es k ≡ neg_ℤ (number_at sums k)

pub minus_none : (sums : List ℤ) → AreMinusBelow sums 0 []
minus_none sums = record {
  rising = tt;
  nonzero = All-nil (λ e. e.value ≢ pos 0);
  fit = All-nil (λ e. Fits128 e.value);
  below = All-nil (λ e. e.column < 0);
  each = λ k lt. absurd (omega arith);
}

last_or_below : (h i : ℕ) → h < i + 1 → (h ≡ i) ⊎ (h < i)
last_or_below h i lt = grind arith

pub neg_fits : (z : ℤ) → Fits128 z → Fits128 (neg_ℤ z)
neg_fits (pos zero) h = h
neg_fits (pos (suc n)) h = h
neg_fits (negsuc n) h = h

one_entry : (column k : ℕ) (value : ℤ) (es : List Entry) →
    coefficient (es ++ record { column = column; value = value } ∷ []) k ≡
    (coefficient es k +ℤ coefficient (record { column = column; value = value } ∷ []) k)
one_entry column k value es = coefficient-append es (record { column = column; value = value } ∷ []) k

absent : (es : List Entry) (i k : ℕ) → All (λ e. e.column < i) es → i ≤ k → coefficient es k ≡ pos 0
absent es i k below past = coefficient_absent es k (All-weaker (λ e. e.column < i) (λ e. e.column ≢ k) (λ e lt is. absurd (omega arith)) es below)

pub minus_pushed : (sums : List ℤ) (i : ℕ) (es : List Entry) (value : ℤ) → AreMinusBelow sums i es →
    number_at sums i ≢ pos 0 → Fits128 (number_at sums i) →
    value ≡ neg_ℤ (number_at sums i) → AreMinusBelow sums (i + 1) (es ++ record { column = i; value = value } ∷ [])
minus_pushed sums i es value m some fits is =
    let e : Entry = record { column = i; value = value } in
    record {
      rising = rising_push es e m.rising m.below;
      nonzero = All-push (λ e. e.value ≢ pos 0) es e m.nonzero (λ none. some (omega (arith, ints)));
      fit = All-push (λ e. Fits128 e.value) es e m.fit (subst Fits128 (sym is) (neg_fits (number_at sums i) fits));
      below = All-push (λ e. e.column < i + 1) es e (All-weaker (λ e. e.column < i) (λ e. e.column < i + 1) (λ e lt. omega arith) es m.below) (omega arith);
      each = λ k lt. elim (last_or_below k i lt) [
        | inl same ↦
            let both = one_entry i k value es in
            let none = absent es i k m.below (omega arith) in
            let own = own_column i k value (sym same) in
            let at = ap (number_at sums) same in
            omega (arith, ints)
        | inr before ↦
            let both = one_entry i k value es in
            let other = other_column i k value (λ e. absurd (omega arith)) in
            let at = m.each k before in
            omega (arith, ints)
      ];
    }

pub minus_passed : (sums : List ℤ) (i : ℕ) (es : List Entry) → AreMinusBelow sums i es → number_at sums i ≡ pos 0 →
    AreMinusBelow sums (i + 1) es
minus_passed sums i es m none =
    record {
      rising = m.rising;
      nonzero = m.nonzero;
      fit = m.fit;
      below = All-weaker (λ e. e.column < i) (λ e. e.column < i + 1) (λ e lt. omega arith) es m.below;
      each = λ k lt. elim (last_or_below k i lt) [
        | inl same ↦
            let gone = absent es i k m.below (omega arith) in
            let at = ap (number_at sums) same in
            omega (arith, ints)
        | inr before ↦ m.each k before
      ];
    }

pub minus_done : (sums : List ℤ) (i objective : ℕ) (es : List Entry) → AreMinusBelow sums i es → i ≡ length sums →
    i ≤ objective →
    AreMinus sums objective (es ++ record { column = objective; value = pos 1 } ∷ [])
minus_done sums i objective es m is within =
    let e : Entry = record { column = objective; value = pos 1 } in
    record {
      rising = rising_push es e m.rising (All-weaker (λ e. e.column < i) (λ e. e.column < objective) (λ e lt. omega arith) es m.below);
      nonzero = All-push (λ e. e.value ≢ pos 0) es e m.nonzero (λ none. absurd (omega (arith, ints, none)));
      fit = All-push (λ e. Fits128 e.value) es e m.fit (omega arith);
      each = λ k lt.
          let both = one_entry objective k (pos 1) es in
          let other = other_column objective k (pos 1) (λ e. absurd (omega arith)) in
          let at = m.each k (omega arith) in
          omega (arith, ints);
      own =
          let both = one_entry objective objective (pos 1) es in
          let own = own_column objective objective (pos 1) refl in
          let none = absent es i objective m.below within in
          omega (arith, ints);
      others = λ k past differ.
          let both = one_entry objective k (pos 1) es in
          let other = other_column objective k (pos 1) (λ e. differ (sym e)) in
          let none = absent es i k m.below (omega arith) in
          omega (arith, ints);
    }

-- ---- the sums of the first rows

pub record IsTally (rows : List SparseRow) (first i : ℕ) (sums : List ℤ) (constant : ℤ) : Type 0 where
  pub count : length sums ≡ first
  pub fit : (k : ℕ) → Fits128 (number_at sums k)
  pub columns : (k : ℕ) → k < first → number_at sums k ≡ total (in_column k) (take i rows)
  pub is : constant ≡ total constant_of (take i rows)
  pub fit_columns : (n k : ℕ) → n ≤ i → k < first → Fits128 (total (in_column k) (take n rows))
  pub fit_constants : (n : ℕ) → n ≤ i → Fits128 (total constant_of (take n rows))

total_append : (f : SparseRow → ℤ) (xs ys : List SparseRow) → total f (xs ++ ys) ≡ (total f xs +ℤ total f ys)
total_append f [] ys = omega (arith, ints)
total_append f (x ∷ xs) ys = let rest = total_append f xs ys in omega (arith, ints)

pub total_more : (f : SparseRow → ℤ) (rows : List SparseRow) (i : ℕ) (d : SparseRow) → i < length rows →
    total f (take (i + 1) rows) ≡ (total f (take i rows) +ℤ f (get_or rows i d))
total_more f rows i d lt =
    let apart = total_append f (take i rows) (get_or rows i d ∷ []) in
    let more = ap (total f) (take_more rows i d lt) in
    omega (arith, ints)

pub zero_fits : Fits128 (pos 0)
zero_fits = omega arith

pub tally_none : (rows : List SparseRow) (first : ℕ) (sums : List ℤ) → length sums ≡ first →
    ((k : ℕ) → number_at sums k ≡ pos 0) → IsTally rows first 0 sums (pos 0)
tally_none rows first sums count none =
    record {
      count = count;
      fit = λ k. subst Fits128 (sym (none k)) zero_fits;
      columns = λ k lt. none k;
      is = refl;
      fit_columns = λ n k le lt. subst (λ (m : ℕ). Fits128 (total (in_column k) (take m rows))) (zero_is n le) zero_fits;
      fit_constants = λ n le. subst (λ (m : ℕ). Fits128 (total constant_of (take m rows))) (zero_is n le) zero_fits;
    }
  where
    zero_is : (n : ℕ) → n ≤ 0 → 0 ≡ n
    zero_is n le = omega arith

up_to : (n i : ℕ) → n ≤ i + 1 → (n ≡ i + 1) ⊎ (n ≤ i)
up_to n i le = grind arith

pub beyond : (sums : List ℤ) (k : ℕ) → length sums ≤ k → number_at sums k ≡ pos 0
beyond [] k past = refl
beyond (x ∷ xs) zero past = absurd (omega arith)
beyond (x ∷ xs) (suc k) past = beyond xs k (omega arith)

pub tally_more : (rows : List SparseRow) (first i : ℕ) (sums added : List ℤ) (constant next : ℤ) (row : SparseRow) →
    IsTally rows first i sums constant → i < length rows →
    row ≡ get_or rows i row → AreAdded sums (pos 1) row.entries added → Fits128 (constant +ℤ row.constant) → next ≡
    (constant +ℤ row.constant) → IsTally rows first (i + 1) added next
tally_more rows first i sums added constant next row t lt is_row a fits is_next =
    record {
      count = a.count ∙ t.count;
      fit = λ k. elim (cases_lt k (length sums)) [
        | inl below ↦ subst Fits128 (sym (a.each k below)) (a.fit k below).sum
        | inr past ↦ subst Fits128 (sym (beyond added k (omega (arith, a.count, past)))) zero_fits
      ];
      columns = column;
      is = is_next ∙ constants;
      fit_columns = λ n k le below. elim (up_to n i le) [
        | inl same ↦
            subst (λ (m : ℕ). Fits128 (total (in_column k) (take m rows))) (sym same)
            (subst Fits128 (column k below) (subst Fits128 (sym (a.each k (omega (arith, t.count, below)))) (a.fit k (omega (arith, t.count, below))).sum))
        | inr before ↦ t.fit_columns n k before below
      ];
      fit_constants = λ n le. elim (up_to n i le) [
        | inl same ↦ subst (λ (m : ℕ). Fits128 (total constant_of (take m rows))) (sym same) (subst Fits128 constants fits)
        | inr before ↦ t.fit_constants n before
      ];
    }
  where
    constants : (constant +ℤ row.constant) ≡ total constant_of (take (i + 1) rows)
    constants =
        let more = total_more constant_of rows i row lt in
        let at = ap constant_of is_row in
        let so_far = t.is in
        omega (arith, ints)

    column : (k : ℕ) → k < first → number_at added k ≡ total (in_column k) (take (i + 1) rows)
    column k below =
        let more = total_more (in_column k) rows i row lt in
        let at = ap (in_column k) is_row in
        let so_far = t.columns k below in
        let here = a.each k (omega (arith, t.count, below)) in
        let one = one_times (coefficient row.entries k) in
        omega (arith, ints)

pub constants_leave : (rows : List SparseRow) (first i : ℕ) (sums : List ℤ) (constant : ℤ) (row : SparseRow) →
    IsTally rows first i sums constant → i < length rows →
    row ≡ get_or rows i row → ¬ Fits128 (constant +ℤ row.constant) → ¬ SumsFit rows first
constants_leave rows first i sums constant row t lt is_row leaves fits =
    let more = total_more constant_of rows i row lt in
    let at = ap constant_of is_row in
    let so_far = t.is in
    let same : total constant_of (take (i + 1) rows) ≡ (constant +ℤ row.constant) = omega (arith, ints) in
    leaves (subst Fits128 same (fits.constants (i + 1)))

pub coefficient_fits : (es : List Entry) (k : ℕ) → IsRising es → All (λ e. Fits128 e.value) es →
    Fits128 (coefficient es k)
coefficient_fits [] k up fit = zero_fits
coefficient_fits (e ∷ es) k up fit =
    elim (cases_eq e.column k) [
      | inl is ↦ subst Fits128 (sym (first_coefficient e es k up is)) (All-head (λ e. Fits128 e.value) e es fit)
      | inr other ↦ subst Fits128 (sym (later_coefficient e es k other)) (coefficient_fits es k (rising_tail e es up) (All-tail (λ e. Fits128 e.value) e es fit))
    ]

pub columns_leave : (rows : List SparseRow) (first i : ℕ) (sums : List ℤ) (constant : ℤ) (row : SparseRow) →
    IsTally rows first i sums constant → i < length rows →
    row ≡ get_or rows i row → IsRow row → AddingLeaves sums (pos 1) row.entries → ¬ SumsFit rows first
columns_leave rows first i sums constant row t lt is_row is leaves fits =
    let k = leaves.0 in
    let below = leaves.1 in
    let more = total_more (in_column k) rows i row lt in
    let at = ap (in_column k) is_row in
    let so_far = t.columns k (omega (arith, t.count, below)) in
    let one = one_times (coefficient row.entries k) in
    let same : total (in_column k) (take (i + 1) rows) ≡ (number_at sums k +ℤ (pos 1 *ℤ coefficient row.entries k)) = omega (arith, ints) in
    leaves.2 (record {
      product = subst Fits128 (sym one) (coefficient_fits row.entries k is.rising is.fit);
      sum = subst Fits128 same (fits.columns (i + 1) k (omega (arith, t.count, below)));
    })

pub tally_done : (rows : List SparseRow) (first objective i : ℕ) (sums : List ℤ) (constant turned : ℤ)
    (es : List Entry) → IsTally rows first i sums constant → length rows ≤ i →
    AreMinus sums objective es → turned ≡ neg_ℤ constant → first ≤ objective → Fits128 constant → IsTopOf rows first objective (record { entries = es; constant = turned })
tally_done rows first objective i sums constant turned es t past m is_turned within constant_fits =
    let all = take_all i rows past in
    let count = t.count in
    record {
      is_top = record {
        sums = λ k lt. m.each k (omega (arith, count, lt)) ∙ ap neg_ℤ (t.columns k lt ∙ ap (total (in_column k)) all);
        own = m.own;
        others = λ k high differ. m.others k (omega (arith, count, high)) differ;
        constant = is_turned ∙ ap neg_ℤ (t.is ∙ ap (total constant_of) all);
      };
      is_row = record { rising = m.rising; nonzero = m.nonzero; fit = m.fit; constant_fits = subst Fits128 (sym is_turned) (neg_fits constant constant_fits) };
      fits = record {
        columns = λ n k lt. elim (cases_lt i n) [
          | inl more ↦ subst (λ (l : List SparseRow). Fits128 (total (in_column k) l)) (all ∙ sym (take_all n rows (omega arith))) (t.fit_columns i k (omega arith) lt)
          | inr few ↦ t.fit_columns n k few lt
        ];
        constants = λ n. elim (cases_lt i n) [
          | inl more ↦ subst (λ (l : List SparseRow). Fits128 (total constant_of l)) (all ∙ sym (take_all n rows (omega arith))) (t.fit_constants i (omega arith))
          | inr few ↦ t.fit_constants n few
        ];
      };
    }

-- what the code's negation gives
pub turned_value : (q : ℤ) → Fits128 q → to_z w128 (of_z w128 (pos 0 -ℤ to_z w128 (of_z w128 q))) ≡ neg_ℤ q
turned_value q fits = let s : SFits w128 q = fits_signed_from_abs w128 q fits in omega (arith, ints)

pub zero_value : (z : ℤ) → Fits128 z → of_z w128 z ≡ 0 → z ≡ pos 0
zero_value z fits e = let s : SFits w128 z = fits_signed_from_abs w128 z fits in sym (to_z-of_z w128 z s) ∙ ap (to_z w128) e

pub turned_total : (q : ℤ) → Fits128 q → to_z w128 (of_z w128 (pos 0 -ℤ q)) ≡ neg_ℤ q
turned_total q fits = let s : SFits w128 q = fits_signed_from_abs w128 q fits in omega (arith, ints)
