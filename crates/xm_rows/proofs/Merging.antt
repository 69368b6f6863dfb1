-- Two rows merged from their lowest column on.
use Rattle.std.proofs.Common.{◌≡◌, ◌≢◌, ℕ, ◌+◌, ◌<◌, ◌≤◌, ◌⊎◌, inl, inr, List, [], ◌∷◌, ◌++◌, length, cond, nat_eq, Bool, true, false, refl, sym, ◌∙◌, ap, subst, arith, pos, ℤ, ◌+ℤ◌, ◌-ℤ◌, ◌*ℤ◌, All, eq-eqb, ne_eqb}
use Rattle.std.proofs.lemmas.Bool.{cases_lt, cases_eq}
use Rattle.std.proofs.lemmas.Int.{ints}
use Rattle.std.proofs.Math.IntN.{+ℤ_idr, *ℤ-zero}
use Rattle.std.proofs.lemmas.List.Elements.{All-head, All-cons, All-nil, All-push, All-weaker}
use Rattle.xm_rows.specs.declared.row.Entry.{Entry}
use Rattle.xm_rows.specs.Row.{Fits128, IsRising, coefficient}
use Rattle.xm_rows.specs.Combination.{DifferenceFits}
use Rattle.xm_rows.specs.Inner.Merging.{IsMerge, StartsAt, behind}
use Rattle.xm_rows.specs.Lemmas.Entries.{own_column, other_column, coefficient-append, coefficient_absent, rising_tail, rising_above, rising_push, later_coefficient}

-- below the column `low` all is merged into out, and from it on all is left
pub record IsMerging (u : ℤ) (r : List Entry) (v : ℤ) (s out left right : List Entry) : Type 0 where
  pub low : ℕ
  pub left_rising : IsRising left
  pub right_rising : IsRising right
  pub rising : IsRising out
  pub nonzero : All (λ e. e.value ≢ pos 0) out
  pub fit : All (λ e. Fits128 e.value) out
  pub below : All (λ e. e.column < low) out
  pub left_above : All (λ e. low ≤ e.column) left
  pub right_above : All (λ e. low ≤ e.column) right
  pub left_same : (k : ℕ) → low ≤ k → coefficient left k ≡ coefficient r k
  pub right_same : (k : ℕ) → low ≤ k → coefficient right k ≡ coefficient s k
  pub same : (k : ℕ) → k < low → coefficient out k ≡ (u *ℤ coefficient r k) -ℤ (v *ℤ coefficient s k)
  pub fits : (k : ℕ) → k < low → DifferenceFits u (coefficient r k) v (coefficient s k)

pub all_within : {P Q : Entry → Type 0} (es : List Entry) → ((e : Entry) → P e → Q e) → All P es → All Q es
all_within {P} {Q} es step h = All-weaker P Q step es h

-- ---- one row behind a column

pub behind_rising : (c : ℕ) (es : List Entry) → IsRising es → IsRising (behind c es)
behind_rising c [] up = up
behind_rising c (e ∷ es) up = behind_rising_by (nat_eq e.column c) e es up
  where
    behind_rising_by : (b : Bool) (e : Entry) (es : List Entry) → IsRising (e ∷ es) → IsRising (cond b es (e ∷ es))
    behind_rising_by true e es up = rising_tail e es up
    behind_rising_by false e es up = up

behind_first : (c : ℕ) (e : Entry) (es : List Entry) → e.column ≡ c → behind c (e ∷ es) ≡ es
behind_first c e es is = rw (eq-eqb e.column c is)

behind_other : (c : ℕ) (e : Entry) (es : List Entry) → e.column ≢ c → behind c (e ∷ es) ≡ e ∷ es
behind_other c e es is = rw (ne_eqb e.column c is)

pub behind_above : (c : ℕ) (es : List Entry) → IsRising es → All (λ e. c ≤ e.column) es → All (λ e. c + 1 ≤ e.column) (behind c es)
behind_above c [] up low = All-nil (λ e. c + 1 ≤ e.column)
behind_above c (e ∷ es) up low =
    let head = All-head (λ f. c ≤ f.column) e es low in
    let rest = all_within {P = λ f. c < f.column} {Q = λ f. c + 1 ≤ f.column} es (λ f p. omega arith) (rising_above e es c head up) in
    elim (cases_eq e.column c) [
      | inl is ↦ subst (All (λ f. c + 1 ≤ f.column)) (sym (behind_first c e es is)) rest
      | inr other ↦ subst (All (λ f. c + 1 ≤ f.column)) (sym (behind_other c e es other)) (All-cons (λ f. c + 1 ≤ f.column) e es (omega arith) rest)
    ]

pub behind_same : (c : ℕ) (es : List Entry) (k : ℕ) → k ≢ c → coefficient (behind c es) k ≡ coefficient es k
behind_same c [] k other = refl
behind_same c (e ∷ es) k other =
    elim (cases_eq e.column c) [
      | inl is ↦ ap (λ (l : List Entry). coefficient l k) (behind_first c e es is) ∙ sym (later_coefficient e es k (λ here. other (sym here ∙ is)))
      | inr apart ↦ ap (λ (l : List Entry). coefficient l k) (behind_other c e es apart)
    ]

pub behind_shorter : (c : ℕ) (es : List Entry) → length (behind c es) ≤ length es
behind_shorter c [] = omega arith
behind_shorter c (e ∷ es) =
    elim (cases_eq e.column c) [
      | inl is ↦ let same = ap length (behind_first c e es is) in omega arith
      | inr other ↦ let same = ap length (behind_other c e es other) in omega arith
    ]

pub behind_start : (c : ℕ) (es : List Entry) → StartsAt c es → length (behind c es) < length es
behind_start c [] h = absurd h
behind_start c (e ∷ es) is = let same = ap length (behind_first c e es is) in omega arith

-- no entry lies below the lowest column
pub below_lowest : (es : List Entry) (c k : ℕ) → All (λ e. c ≤ e.column) es → k < c → coefficient es k ≡ pos 0
below_lowest es c k low h = coefficient_absent es k (all_within {P = λ e. c ≤ e.column} {Q = λ e. e.column ≢ k} es (λ e p. omega arith) low)

above_highest : (es : List Entry) (c k : ℕ) → All (λ e. e.column < c) es → c ≤ k → coefficient es k ≡ pos 0
above_highest es c k high h = coefficient_absent es k (all_within {P = λ e. e.column < c} {Q = λ e. e.column ≢ k} es (λ e p. omega arith) high)

-- nothing less nothing fits
pub nothing : (u v : ℤ) → (u *ℤ pos 0) -ℤ (v *ℤ pos 0) ≡ pos 0
nothing u v = let x = *ℤ-zero u in let y = *ℤ-zero v in omega (arith, ints)

pub nothing_fits : (u v : ℤ) → DifferenceFits u (pos 0) v (pos 0)
nothing_fits u v =
    record {
      first = rw (*ℤ-zero u) (omega arith);
      second = rw (*ℤ-zero v) (omega arith);
      difference = rw (nothing u v) (omega arith);
    }

starts_low : (es : List Entry) (c low : ℕ) → StartsAt c es → All (λ e. low ≤ e.column) es → low ≤ c
starts_low [] c low h above = absurd h
starts_low (e ∷ es) c low is above = let here = All-head (λ f. low ≤ f.column) e es above in omega arith

pub low_within : {u v : ℤ} {r s out left right : List Entry} (c : ℕ) (m : IsMerging u r v s out left right) → StartsAt c left ⊎ StartsAt c right → m.low ≤ c
low_within {left = left} {right = right} c m present =
    elim present [ inl h ↦ starts_low left c m.low h m.left_above | inr h ↦ starts_low right c m.low h m.right_above ]

difference_of : (u v a b a' b' : ℤ) → a ≡ a' → b ≡ b' → (u *ℤ a) -ℤ (v *ℤ b) ≡ (u *ℤ a') -ℤ (v *ℤ b')
difference_of u v a b a' b' e f = rw (e, f)

fits_as : (u v a b a' b' : ℤ) → a ≡ a' → b ≡ b' → DifferenceFits u a v b → DifferenceFits u a' v b'
fits_as u v a b a' b' e f h = rw (e, f) at h

times_none : (b : Bool) (value : ℤ) → value ≡ pos 0 → cond b value (pos 0) ≡ pos 0
times_none true value e = e
times_none false value e = refl

same_here : (c k : ℕ) (value : ℤ) (out : List Entry) (u v a b : ℤ) → c ≡ k → coefficient out k ≡ pos 0 → value ≡ (u *ℤ a) -ℤ (v *ℤ b) →
    coefficient out k +ℤ cond (nat_eq c k) value (pos 0) ≡ (u *ℤ a) -ℤ (v *ℤ b)
same_here c k value out u v a b is none e = let own = own_column c k value is in omega (arith, ints)

same_elsewhere : (c k : ℕ) (value : ℤ) (out : List Entry) (u v a b : ℤ) → c ≢ k → coefficient out k ≡ (u *ℤ a) -ℤ (v *ℤ b) →
    coefficient out k +ℤ cond (nat_eq c k) value (pos 0) ≡ (u *ℤ a) -ℤ (v *ℤ b)
same_elsewhere c k value out u v a b other e = let none = other_column c k value other in omega (arith, ints)

-- what out has after the column c: nothing more, or the entry with the value
pub data Pushed (c : ℕ) (value : ℤ) (out : List Entry) : List Entry → Type 0 where
  left_out : value ≡ pos 0 → Pushed c value out out
  pushed : value ≢ pos 0 → Pushed c value out (out ++ record { column = c; value = value } ∷ [])

pushed_coefficient : (c : ℕ) (value : ℤ) (out next : List Entry) → Pushed c value out next → (k : ℕ) →
    coefficient next k ≡ coefficient out k +ℤ cond (nat_eq c k) value (pos 0)
pushed_coefficient c value out next (left_out zero_value) k =
    let none = times_none (nat_eq c k) value zero_value in
    rw none (sym (+ℤ_idr (coefficient out k)))
pushed_coefficient c value out next (pushed some) k =
    coefficient-append out (record { column = c; value = value } ∷ []) k
    ∙ ap (λ (z : ℤ). coefficient out k +ℤ z) (+ℤ_idr (cond (nat_eq c k) value (pos 0)))

pushed_rising : (c : ℕ) (value : ℤ) (out next : List Entry) → Pushed c value out next → IsRising out → All (λ e. e.column < c) out → IsRising next
pushed_rising c value out next (left_out zero_value) up below = up
pushed_rising c value out next (pushed some) up below = rising_push out (record { column = c; value = value }) up below

pushed_all : (P : Entry → Type 0) (c : ℕ) (value : ℤ) (out next : List Entry) → Pushed c value out next → (value ≢ pos 0 → P (record { column = c; value = value })) →
    All P out → All P next
pushed_all P c value out next (left_out zero_value) one h = h
pushed_all P c value out next (pushed some) one h = All-push P out (record { column = c; value = value }) h (one some)

pub merging_more : {u v : ℤ} {r s out left right : List Entry} (c : ℕ) (a b value : ℤ) (next : List Entry) → IsMerging u r v s out left right →
    All (λ e. c ≤ e.column) left → All (λ e. c ≤ e.column) right → StartsAt c left ⊎ StartsAt c right →
    a ≡ coefficient left c → b ≡ coefficient right c → DifferenceFits u a v b → value ≡ (u *ℤ a) -ℤ (v *ℤ b) →
    Pushed c value out next → IsMerging u r v s next (behind c left) (behind c right)
merging_more {u} {v} {r} {s} {out} {left} {right} c a b value next m left_low right_low present is_a is_b fits is_value done =
    let low = low_within c m present in
    let below = all_within {P = λ e. e.column < m.low} {Q = λ e. e.column < c} out (λ e p. omega arith) m.below in
    let here_r = is_a ∙ m.left_same c low in
    let here_s = is_b ∙ m.right_same c low in
    let before_r = λ (k : ℕ) (from : m.low ≤ k) (h : k < c). sym (m.left_same k from) ∙ below_lowest left c k left_low h in
    let before_s = λ (k : ℕ) (from : m.low ≤ k) (h : k < c). sym (m.right_same k from) ∙ below_lowest right c k right_low h in
    record {
      low = c + 1;
      left_rising = behind_rising c left m.left_rising;
      right_rising = behind_rising c right m.right_rising;
      rising = pushed_rising c value out next done m.rising below;
      nonzero = pushed_all (λ e. e.value ≢ pos 0) c value out next done (λ h. h) m.nonzero;
      fit = pushed_all (λ e. Fits128 e.value) c value out next done (λ h. subst Fits128 (sym is_value) fits.difference) m.fit;
      below = pushed_all (λ e. e.column < c + 1) c value out next done (λ h. omega arith) (all_within {P = λ e. e.column < c} {Q = λ e. e.column < c + 1} out (λ e p. omega arith) below);
      left_above = behind_above c left m.left_rising left_low;
      right_above = behind_above c right m.right_rising right_low;
      left_same = λ k h. behind_same c left k (λ e. absurd (omega arith)) ∙ m.left_same k (omega arith);
      right_same = λ k h. behind_same c right k (λ e. absurd (omega arith)) ∙ m.right_same k (omega arith);
      same = λ k h. pushed_coefficient c value out next done k ∙ elim (cases_eq c k) [
        | inl is ↦ same_here c k value out u v (coefficient r k) (coefficient s k) is (above_highest out c k below (omega arith))
            (is_value ∙ difference_of u v a b (coefficient r k) (coefficient s k) (here_r ∙ ap (coefficient r) is) (here_s ∙ ap (coefficient s) is))
        | inr other ↦ same_elsewhere c k value out u v (coefficient r k) (coefficient s k) other (elim (cases_lt k m.low) [
          | inl early ↦ m.same k early
          | inr late ↦ above_highest out m.low k m.below late ∙ sym (nothing u v)
              ∙ sym (difference_of u v (coefficient r k) (coefficient s k) (pos 0) (pos 0) (before_r k late (omega arith)) (before_s k late (omega arith)))
        ])
      ];
      fits = λ k h. elim (cases_eq c k) [
        | inl is ↦ fits_as u v a b (coefficient r k) (coefficient s k) (here_r ∙ ap (coefficient r) is) (here_s ∙ ap (coefficient s) is) fits
        | inr other ↦ elim (cases_lt k m.low) [
          | inl early ↦ m.fits k early
          | inr late ↦ fits_as u v (pos 0) (pos 0) (coefficient r k) (coefficient s k) (sym (before_r k late (omega arith))) (sym (before_s k late (omega arith))) (nothing_fits u v)
        ]
      ];
    }

pub merging_done : {u v : ℤ} {r s out left right : List Entry} → IsMerging u r v s out left right → left ≡ [] → right ≡ [] → IsMerge u r v s out
merging_done {u} {v} {r} {s} {out} {left} {right} m no_left no_right =
    let after_r = λ (k : ℕ) (from : m.low ≤ k). sym (m.left_same k from) ∙ ap (λ (l : List Entry). coefficient l k) no_left in
    let after_s = λ (k : ℕ) (from : m.low ≤ k). sym (m.right_same k from) ∙ ap (λ (l : List Entry). coefficient l k) no_right in
    record {
      rising = m.rising;
      nonzero = m.nonzero;
      fit = m.fit;
      same = λ k. elim (cases_lt k m.low) [
        | inl early ↦ m.same k early
        | inr late ↦ above_highest out m.low k m.below late ∙ sym (nothing u v)
            ∙ sym (difference_of u v (coefficient r k) (coefficient s k) (pos 0) (pos 0) (after_r k late) (after_s k late))
      ];
      fits = λ k. elim (cases_lt k m.low) [
        | inl early ↦ m.fits k early
        | inr late ↦ fits_as u v (pos 0) (pos 0) (coefficient r k) (coefficient s k) (sym (after_r k late)) (sym (after_s k late)) (nothing_fits u v)
      ];
    }

-- what leaves 128 bits in what is left does so in the rows
pub merging_leaves : {u v : ℤ} {r s out left right : List Entry} (c : ℕ) (a b : ℤ) → IsMerging u r v s out left right → StartsAt c left ⊎ StartsAt c right →
    a ≡ coefficient left c → b ≡ coefficient right c → ¬ DifferenceFits u a v b →
    (k : ℕ) × ¬ DifferenceFits u (coefficient r k) v (coefficient s k)
merging_leaves {u} {v} {r} {s} c a b m present is_a is_b leaves =
    let low = low_within c m present in
    (c, λ fits. leaves (fits_as u v (coefficient r c) (coefficient s c) a b (sym (is_a ∙ m.left_same c low)) (sym (is_b ∙ m.right_same c low)) fits))

-- one turn, after which the column's value is pushed
pub merging_pushed : {u v : ℤ} {r s out left right : List Entry} (c : ℕ) (a b value : ℤ) (next rest_left rest_right : List Entry) → IsMerging u r v s out left right →
    All (λ e. c ≤ e.column) left × All (λ e. c ≤ e.column) right → StartsAt c left ⊎ StartsAt c right →
    a ≡ coefficient left c → b ≡ coefficient right c → DifferenceFits u a v b × (value ≡ (u *ℤ a) -ℤ (v *ℤ b)) →
    value ≢ pos 0 → next ≡ out ++ record { column = c; value = value } ∷ [] → rest_left ≡ behind c left → rest_right ≡ behind c right →
    IsMerging u r v s next rest_left rest_right
merging_pushed c a b value next rest_left rest_right m low present is_a is_b is some is_next is_left is_right =
    rw (is_next, is_left, is_right) (merging_more c a b value _ m low.0 low.1 present is_a is_b is.0 is.1 (pushed some))

-- one turn, after which the column has value 0
pub merging_passed : {u v : ℤ} {r s out left right : List Entry} (c : ℕ) (a b value : ℤ) (rest_left rest_right : List Entry) → IsMerging u r v s out left right →
    All (λ e. c ≤ e.column) left × All (λ e. c ≤ e.column) right → StartsAt c left ⊎ StartsAt c right →
    a ≡ coefficient left c → b ≡ coefficient right c → DifferenceFits u a v b × (value ≡ (u *ℤ a) -ℤ (v *ℤ b)) →
    value ≡ pos 0 → rest_left ≡ behind c left → rest_right ≡ behind c right →
    IsMerging u r v s out rest_left rest_right
merging_passed c a b value rest_left rest_right m low present is_a is_b is zero_value is_left is_right =
    rw (is_left, is_right) (merging_more c a b value _ m low.0 low.1 present is_a is_b is.0 is.1 (left_out zero_value))

-- and less is left
pub merging_shorter : (c : ℕ) (left right rest_left rest_right : List Entry) → StartsAt c left ⊎ StartsAt c right →
    rest_left ≡ behind c left → rest_right ≡ behind c right → length rest_left + length rest_right < length left + length right
merging_shorter c left right rest_left rest_right present is_left is_right =
    let l = ap length is_left in let r = ap length is_right in
    let less_left = behind_shorter c left in let less_right = behind_shorter c right in
    elim present [
      | inl h ↦ omega (arith, behind_start c left h)
      | inr h ↦ omega (arith, behind_start c right h)
    ]
