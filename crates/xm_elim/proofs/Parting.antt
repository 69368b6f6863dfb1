-- A pivot parted from its factors.
use Rattle.std.proofs.Common.{◌≡◌, ◌≢◌, ℕ, ◌+◌, ◌-◌, ◌<◌, ◌≤◌, inl, inr, List, [], ◌∷◌, ◌++◌, length, get_or, take, Bool, cond, nat_eq, nat_lt, le-ltb, refl, sym, ◌∙◌, ap, ap₂, subst, arith, pos, neg_ℤ, ℤ, ◌+ℤ◌, ◌*ℤ◌, unsigned_abs, int_div, All}
use Rattle.std.specs.Int.{◌∣◌}
use Rattle.std.proofs.lemmas.Bool.{cases_eq, cases_lt, lt-ltb, cond-true, cond-false}
use Rattle.std.proofs.lemmas.Int.{ints, unsigned_abs-mul}
use Rattle.std.proofs.lemmas.List.{take_more, take_all}
use Rattle.std.proofs.lemmas.List.Elements.{All-head, All-tail, All-cons, All-nil, All-weaker}
use Rattle.std.proofs.Math.IntN.{*ℤ_comm, *ℤ-zero}
use Rattle.std.proofs.Math.Nat.{dvd-mul_left, le-mul_of_pos_right}
use Rattle.xm_flow.specs.declared.invariant.Part.{Part}
use Rattle.xm_rows.specs.Lemmas.Entries.{coefficient_absent, first_coefficient, later_coefficient, other_column, own_column, rising_above, rising_tail}
use Rattle.xm_rows.specs.Lemmas.Integers.{abs_positive, one_factor, quotient_times}
use Rattle.xm_rows.specs.Divisor.{IsPrimitiveOf}
use Rattle.xm_rows.specs.Row.{Fits128, IsRising, IsRow, SparseRow, coefficient}
use Rattle.xm_rows.specs.declared.row.Entry.{Entry}
use Rattle.xm_elim.specs.Elimination.{parts_of}
use Rattle.xm_elim.specs.Inner.Places.{IsReducedPivot, Leads, lowered}
use Rattle.xm_elim.proofs.Following.{parts_above, parts_below}
use Rattle.xm_elim.proofs.Spanning.{high_entries}

-- ---- loops

low_is : (from base : ℕ) (e : Entry) (es : List Entry) → e.column < base → lowered from base (e ∷ es) ≡ record { column = e.column - from; value = e.value } ∷ lowered from base es
low_is from base e es below =
    cond-true (nat_lt e.column base) (record { column = e.column - from; value = e.value } ∷ lowered from base es) (lowered from base es) (lt-ltb e.column base below)

low_not : (from base : ℕ) (e : Entry) (es : List Entry) → base ≤ e.column → lowered from base (e ∷ es) ≡ lowered from base es
low_not from base e es above =
    cond-false (nat_lt e.column base) (record { column = e.column - from; value = e.value } ∷ lowered from base es) (lowered from base es) (le-ltb e.column base above)

lowered-append : (from base : ℕ) (xs ys : List Entry) → lowered from base (xs ++ ys) ≡ lowered from base xs ++ lowered from base ys
lowered-append from base [] ys = refl
lowered-append from base (x ∷ xs) ys =
    elim (cases_lt x.column base) [
      | inl below ↦
          low_is from base x (xs ++ ys) below ∙ ap (λ (l : List Entry). record { column = x.column - from; value = x.value } ∷ l) (lowered-append from base xs ys)
          ∙ ap (λ (l : List Entry). l ++ lowered from base ys) (sym (low_is from base x xs below))
      | inr above ↦ low_not from base x (xs ++ ys) above ∙ lowered-append from base xs ys ∙ ap (λ (l : List Entry). l ++ lowered from base ys) (sym (low_not from base x xs above))
    ]

pub lowered_more : (from base : ℕ) (es : List Entry) (i : ℕ) (d : Entry) (so_far next : List Entry) → i < length es → so_far ≡ lowered from base (take i es) →
    (get_or es i d).column < base → next ≡ so_far ++ record { column = (get_or es i d).column - from; value = (get_or es i d).value } ∷ [] → next ≡ lowered from base (take (i + 1) es)
lowered_more from base es i d so_far next within is below pushed =
    let e = get_or es i d in
    pushed ∙ ap₂ ◌++◌ is (sym (low_is from base e [] below)) ∙ sym (lowered-append from base (take i es) (e ∷ [])) ∙ ap (lowered from base) (sym (take_more es i d within))

pub lowered_passed : (from base : ℕ) (es : List Entry) (i : ℕ) (d : Entry) (so_far : List Entry) → i < length es → so_far ≡ lowered from base (take i es) →
    base ≤ (get_or es i d).column → so_far ≡ lowered from base (take (i + 1) es)
lowered_passed from base es i d so_far within is above =
    let e = get_or es i d in
    is ∙ sym (append_none (lowered from base (take i es))) ∙ ap (λ (l : List Entry). lowered from base (take i es) ++ l) (sym (low_not from base e [] above))
    ∙ sym (lowered-append from base (take i es) (e ∷ [])) ∙ ap (lowered from base) (sym (take_more es i d within))
  where
    append_none : (xs : List Entry) → xs ++ [] ≡ xs
    append_none [] = refl
    append_none (x ∷ xs) = ap (λ (l : List Entry). x ∷ l) (append_none xs)

pub lowered_all : (from base : ℕ) (items es : List Entry) (i : ℕ) (so_far : List Entry) → length items ≤ i → items ≡ es → so_far ≡ lowered from base (take i items) → so_far ≡ lowered from base es
lowered_all from base items es i so_far past same is = is ∙ ap (lowered from base) (take_all i items past ∙ same)

parts-append : (base : ℕ) (turned : Bool) (xs ys : List Entry) → parts_of base turned (xs ++ ys) ≡ parts_of base turned xs ++ parts_of base turned ys
parts-append base turned [] ys = refl
parts-append base turned (x ∷ xs) ys =
    elim (cases_lt x.column base) [
      | inl below ↦ parts_below base turned x (xs ++ ys) below ∙ parts-append base turned xs ys ∙ ap (λ (l : List Part). l ++ parts_of base turned ys) (sym (parts_below base turned x xs below))
      | inr above ↦
          parts_above base turned x (xs ++ ys) above
          ∙ ap (λ (l : List Part). record { flow = x.column - base; factor = cond turned (neg_ℤ x.value) x.value } ∷ l) (parts-append base turned xs ys)
          ∙ ap (λ (l : List Part). l ++ parts_of base turned ys) (sym (parts_above base turned x xs above))
    ]

pub parts_more : (base : ℕ) (turned : Bool) (es : List Entry) (i : ℕ) (d : Entry) (so_far next : List Part) (factor : ℤ) → i < length es → so_far ≡ parts_of base turned (take i es) →
    base ≤ (get_or es i d).column → factor ≡ cond turned (neg_ℤ (get_or es i d).value) (get_or es i d).value →
    next ≡ so_far ++ record { flow = (get_or es i d).column - base; factor = factor } ∷ [] → next ≡ parts_of base turned (take (i + 1) es)
parts_more base turned es i d so_far next factor within is above factor_is pushed =
    let e = get_or es i d in
    let one = ap (λ (z : ℤ). part (e.column - base) z ∷ []) factor_is in
    pushed ∙ ap₂ ◌++◌ is (one ∙ sym (parts_above base turned e [] above)) ∙ sym (parts-append base turned (take i es) (e ∷ [])) ∙ ap (parts_of base turned) (sym (take_more es i d within))
  where
    part : ℕ → ℤ → Part
    part f z = record { flow = f; factor = z }

pub parts_passed : (base : ℕ) (turned : Bool) (es : List Entry) (i : ℕ) (d : Entry) (so_far : List Part) → i < length es → so_far ≡ parts_of base turned (take i es) →
    (get_or es i d).column < base → so_far ≡ parts_of base turned (take (i + 1) es)
parts_passed base turned es i d so_far within is below =
    let e = get_or es i d in
    is ∙ sym (append_none (parts_of base turned (take i es))) ∙ ap (λ (l : List Part). parts_of base turned (take i es) ++ l) (sym (parts_below base turned e [] below))
    ∙ sym (parts-append base turned (take i es) (e ∷ [])) ∙ ap (parts_of base turned) (sym (take_more es i d within))
  where
    append_none : (xs : List Part) → xs ++ [] ≡ xs
    append_none [] = refl
    append_none (x ∷ xs) = ap (λ (l : List Part). x ∷ l) (append_none xs)

pub parts_all : (base : ℕ) (turned : Bool) (items es : List Entry) (i : ℕ) (so_far : List Part) → length items ≤ i → items ≡ es → so_far ≡ parts_of base turned (take i items) → so_far ≡ parts_of base turned es
parts_all base turned items es i so_far past same is = is ∙ ap (parts_of base turned) (take_all i items past ∙ same)

-- ---- the row over packets

lowered_all_of : (P : Entry → Type 0) (Q : Entry → Type 0) (from base : ℕ) (es : List Entry) →
    ((e : Entry) → Q e → e.column < base → P (record { column = e.column - from; value = e.value })) → All Q es → All P (lowered from base es)
lowered_all_of P Q from base [] step all = All-nil P
lowered_all_of P Q from base (e ∷ es) step all =
    let rest = lowered_all_of P Q from base es step (All-tail Q e es all) in
    elim (cases_lt e.column base) [
      | inl below ↦
          subst (All P) (sym (low_is from base e es below))
          (All-cons P (record { column = e.column - from; value = e.value }) (lowered from base es) (step e (All-head Q e es all) below) rest)
      | inr above ↦ subst (All P) (sym (low_not from base e es above)) rest
    ]

rising_cons : (e : Entry) (es : List Entry) → All (λ f. e.column < f.column) es → IsRising es → IsRising (e ∷ es)
rising_cons e [] all up = tt
rising_cons e (f ∷ es) all up = (All-head (λ g. e.column < g.column) f es all, up)

lowered_rising : (from base : ℕ) (es : List Entry) → All (λ e. from ≤ e.column) es → IsRising es → IsRising (lowered from base es)
lowered_rising from base [] high up = tt
lowered_rising from base (e ∷ es) high up =
    let rest = lowered_rising from base es (All-tail (λ f. from ≤ f.column) e es high) (rising_tail e es up) in
    let low = All-head (λ f. from ≤ f.column) e es high in
    elim (cases_lt e.column base) [
      | inl below ↦
          let x : Entry = record { column = e.column - from; value = e.value } in
          subst IsRising (sym (low_is from base e es below))
          (rising_cons x (lowered from base es)
          (lowered_all_of (λ f. x.column < f.column) (λ f. e.column < f.column) from base es (λ f less within. omega arith) (rising_above e es e.column (omega arith) up)) rest)
      | inr above ↦ subst IsRising (sym (low_not from base e es above)) rest
    ]

lowered_coefficient : (from base k : ℕ) (es : List Entry) → All (λ e. from ≤ e.column) es → from + k < base → coefficient (lowered from base es) k ≡ coefficient es (from + k)
lowered_coefficient from base k [] high within = refl
lowered_coefficient from base k (e ∷ es) high within =
    let rest = lowered_coefficient from base k es (All-tail (λ f. from ≤ f.column) e es high) within in
    let low = All-head (λ f. from ≤ f.column) e es high in
    elim (cases_lt e.column base) [
      | inl below ↦
          ap (λ (l : List Entry). coefficient l k) (low_is from base e es below) ∙ ap₂ ◌+ℤ◌ (same_test e.column e.value low) rest
      | inr above ↦
          let here = other_column e.column (from + k) e.value (λ is. absurd (omega arith)) in
          ap (λ (l : List Entry). coefficient l k) (low_not from base e es above) ∙ rest
          ∙ (let same : coefficient es (from + k) ≡ cond (nat_eq e.column (from + k)) e.value (pos 0) +ℤ coefficient es (from + k) = omega (arith, ints) in same)
    ]
  where
    same_test : (c : ℕ) (value : ℤ) → from ≤ c → cond (nat_eq (c - from) k) value (pos 0) ≡ cond (nat_eq c (from + k)) value (pos 0)
    same_test c value low =
        elim (cases_eq c (from + k)) [
          | inl is ↦ own_column (c - from) k value (omega arith) ∙ sym (own_column c (from + k) value is)
          | inr other ↦ other_column (c - from) k value (λ e. other (omega arith)) ∙ sym (other_column c (from + k) value other)
        ]

lowered_within : (from n : ℕ) (es : List Entry) → All (λ e. from ≤ e.column) es → All (λ e. e.column < n) (lowered from (from + n) es)
lowered_within from n es high = lowered_all_of (λ e. e.column < n) (λ e. from ≤ e.column) from (from + n) es (λ e low below. omega arith) high

pub high_from : (moves bound column : ℕ) (r : SparseRow) → IsRow r → Leads moves bound column r → All (λ e. moves ≤ e.column) r.entries
high_from moves bound column r row leads = high_entries moves r row (λ k below. let from = leads.from in leads.before k (omega arith))

pub lowered_row : (moves counts column : ℕ) (r : SparseRow) (es : List Entry) (constant : ℤ) → IsRow r → Leads moves (moves + counts) column r → es ≡ lowered moves (moves + counts) r.entries →
    constant ≡ r.constant → IsRow (record { entries = es; constant = constant })
lowered_row moves counts column r es constant row leads is same =
    let high = high_from moves (moves + counts) column r row leads in
    let base = moves + counts in
    subst (λ (z : ℤ). IsRow (record { entries = es; constant = z })) (sym same)
    (subst (λ (l : List Entry). IsRow (record { entries = l; constant = r.constant })) (sym is)
    (record {
      rising = lowered_rising moves base r.entries high row.rising;
      nonzero = lowered_all_of (λ (e : Entry). e.value ≢ pos 0) (λ (e : Entry). e.value ≢ pos 0) moves base r.entries (λ e h below. h) row.nonzero;
      fit = lowered_all_of (λ (e : Entry). Fits128 e.value) (λ (e : Entry). Fits128 e.value) moves base r.entries (λ e h below. h) row.fit;
      constant_fits = row.constant_fits;
    }))

-- ---- made primitive

-- a row that is 0 from a column on has no entry there
within_of : (n : ℕ) (es : List Entry) → IsRising es → All (λ e. e.value ≢ pos 0) es → ((k : ℕ) → n ≤ k → coefficient es k ≡ pos 0) → All (λ e. e.column < n) es
within_of n [] up nonzero zeros = All-nil (λ (e : Entry). e.column < n)
within_of n (e ∷ es) up nonzero zeros =
    let some = All-head (λ (f : Entry). f.value ≢ pos 0) e es nonzero in
    let first = first_coefficient e es e.column up refl in
    let rest = within_of n es (rising_tail e es up) (All-tail (λ (f : Entry). f.value ≢ pos 0) e es nonzero)
    (λ k high. elim (cases_eq e.column k) [
      | inl is ↦ coefficient_absent es k (All-weaker (λ (f : Entry). e.column < f.column) (λ f. f.column ≢ k) (λ f h. omega arith) es (rising_above e es e.column (omega arith) up))
      | inr other ↦ sym (later_coefficient e es k other) ∙ zeros k high
    ]) in
    elim (cases_lt e.column n) [
      | inl within ↦ All-cons (λ (f : Entry). f.column < n) e es within rest
      | inr past ↦ absurd (some (sym first ∙ zeros e.column past))
    ]

ratio_is : (f n o : ℤ) → n ≢ pos 0 → f *ℤ n ≡ o → int_div o n ≡ f
ratio_is f n o nonzero is =
    let whole = sym (ap unsigned_abs is) ∙ unsigned_abs-mul f n in
    let divides : unsigned_abs n ∣ unsigned_abs o = subst (λ (m : ℕ). unsigned_abs n ∣ m) (sym whole) (dvd-mul_left (unsigned_abs n) (unsigned_abs f)) in
    one_factor n (int_div o n) f nonzero (*ℤ_comm n (int_div o n) ∙ quotient_times o n divides ∙ sym is ∙ *ℤ_comm f n)

ratio_fits : (f n o : ℤ) → n ≢ pos 0 → f *ℤ n ≡ o → Fits128 o → Fits128 f
ratio_fits f n o nonzero is fits =
    let whole = sym (ap unsigned_abs is) ∙ unsigned_abs-mul f n in
    let larger = le-mul_of_pos_right (unsigned_abs f) (abs_positive n nonzero) in
    omega (arith, whole, larger)

module _ (moves counts column : ℕ) (r : SparseRow) (es : List Entry) (constant : ℤ) (old new : SparseRow) (row : IsRow r) (leads : Leads moves (moves + counts) column r)
    (is : es ≡ lowered moves (moves + counts) r.entries) (same : constant ≡ r.constant) (old_is : old ≡ record { entries = es; constant = constant }) where
  old_at : (k : ℕ) → k < counts → coefficient old.entries k ≡ coefficient r.entries (moves + k)
  old_at k below =
      ap (λ (s : SparseRow). coefficient s.entries k) old_is ∙ ap (λ (l : List Entry). coefficient l k) is
      ∙ lowered_coefficient moves (moves + counts) k r.entries (high_from moves (moves + counts) column r row leads) (omega arith)

  old_none : (k : ℕ) → counts ≤ k → coefficient old.entries k ≡ pos 0
  old_none k past =
      ap (λ (s : SparseRow). coefficient s.entries k) old_is ∙ ap (λ (l : List Entry). coefficient l k) is
      ∙ coefficient_absent (lowered moves (moves + counts) r.entries) k
      (All-weaker (λ (e : Entry). e.column < counts) (λ e. e.column ≢ k) (λ e p. omega arith) (lowered moves (moves + counts) r.entries)
      (lowered_within moves counts r.entries (high_from moves (moves + counts) column r row leads)))

  old_lead : coefficient old.entries (column - moves) ≢ pos 0
  old_lead gone =
      let from = leads.from in
      let below = leads.below in
      let back : moves + (column - moves) ≡ column = omega arith in
      leads.some (ap (coefficient r.entries) (sym back) ∙ sym (old_at (column - moves) (omega arith)) ∙ gone)

  pub old_some : old.entries ≢ []
  old_some none = old_lead (ap (λ (l : List Entry). coefficient l (column - moves)) none)

  pub new_lead : IsPrimitiveOf old new → coefficient new.entries (column - moves) ≢ pos 0
  new_lead p gone = old_lead (sym (p.entries (column - moves)) ∙ ap (λ (z : ℤ). p.factor *ℤ z) gone ∙ *ℤ-zero p.factor)

  pub reduced_pivot : (before after factor : ℤ) → IsPrimitiveOf old new → IsRow new → before ≡ coefficient old.entries (column - moves) → after ≡ coefficient new.entries (column - moves) →
      Fits128 before → factor ≡ int_div before after → IsReducedPivot moves counts r new factor
  reduced_pivot before after factor p new_row before_is after_is fits factor_is =
      let lead = new_lead p in
      let after_nonzero : after ≢ pos 0 = λ e. lead (sym after_is ∙ e) in
      let times : p.factor *ℤ after ≡ before = ap (λ (z : ℤ). p.factor *ℤ z) after_is ∙ p.entries (column - moves) ∙ sym before_is in
      let f_is : factor ≡ p.factor = factor_is ∙ ratio_is p.factor after before after_nonzero times in
      record {
        fits = subst Fits128 (sym f_is) (ratio_fits p.factor after before after_nonzero times fits);
        nonzero = λ e. p.nonzero (sym f_is ∙ e);
        row = new_row;
        within = within_of counts new.entries new_row.rising new_row.nonzero (λ k past. zero_new p k (old_none k past));
        entries = λ k below. ap (λ (z : ℤ). z *ℤ coefficient new.entries k) f_is ∙ p.entries k ∙ old_at k below;
        constant = ap (λ (z : ℤ). z *ℤ new.constant) f_is ∙ p.constant ∙ ap (λ (s : SparseRow). s.constant) old_is ∙ same;
        leads = p.leads;
        lowest = p.lowest;
      }
    where
      zero_new : (p : IsPrimitiveOf old new) (k : ℕ) → coefficient old.entries k ≡ pos 0 → coefficient new.entries k ≡ pos 0
      zero_new p k gone = one_factor p.factor (coefficient new.entries k) (pos 0) p.nonzero (p.entries k ∙ gone ∙ sym (*ℤ-zero p.factor))
