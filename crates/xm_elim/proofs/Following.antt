-- Each lemma follows from the flow rows: its factors times them are its scale times its row.
use Rattle.std.proofs.Common.{◌≡◌, ◌≢◌, ℕ, zero, suc, ◌+◌, ◌-◌, ◌<◌, ◌≤◌, inl, inr, List, [], ◌∷◌, length, slice_get, Some, Bool, true, false, cond, nat_eq, nat_lt, le-ltb, refl, sym, ◌∙◌, ap, ap₂, subst, arith, pos, negsuc, neg_ℤ, ℤ, ◌+ℤ◌, ◌-ℤ◌, ◌*ℤ◌, ◌<ℤ◌, unsigned_abs, All}
use Rattle.std.specs.Int.{is_negative}
use Rattle.std.proofs.lemmas.Bool.{cases_eq, cases_lt, lt-ltb, cond-true, cond-false}
use Rattle.std.proofs.lemmas.Int.{ints}
use Rattle.std.proofs.lemmas.List.Elements.{All-head, All-tail, All-cons, All-nil, All-weaker}
use Rattle.std.proofs.Math.IntN.{*ℤ-zero, zero-*ℤ}
use Rattle.xm_flow.specs.ValidLemma.{IsValid, Lemma, flow_at, weighed, weighed_constant}
use Rattle.xm_flow.specs.declared.invariant.Part.{Part}
use Rattle.xm_rows.specs.Lemmas.Entries.{coefficient_absent, first_coefficient, later_coefficient, other_column, rising_above, rising_tail}
use Rattle.xm_rows.specs.Lemmas.Integers.{abs_positive, negated, one_times, times_negated, times_one}
use Rattle.xm_rows.specs.Points.{Meets}
use Rattle.xm_rows.specs.Row.{IsRising, IsRow, SparseRow, coefficient, left_side}
use Rattle.xm_rows.specs.declared.row.Entry.{Entry}
use Rattle.xm_elim.specs.Basis.{AreOver}
use Rattle.xm_elim.specs.Elimination.{IsParted, begun_from, parts_of}
use Rattle.xm_elim.proofs.Beginning.{all_at, begun_meets}
use Rattle.xm_elim.proofs.Passing.{MeetsAll}

-- ---- a row read off by points: what it has in one column, less what its factors say

pub one_at : ℕ → ℕ → ℤ
one_at k l = cond (nat_eq l k) (pos 1) (pos 0)

-- 1 in column k, and in a factor's column less what its flow row has in k
pub tell : ℕ → List SparseRow → ℕ → ℕ → ℤ
tell base flow k l = cond (nat_lt l base) (one_at k l) (neg_ℤ (coefficient (flow_at flow (l - base)).entries k))

tell_below : (base : ℕ) (flow : List SparseRow) (k l : ℕ) → l < base → tell base flow k l ≡ one_at k l
unfolding tell
tell_below base flow k l below = cond-true (nat_lt l base) (one_at k l) (neg_ℤ (coefficient (flow_at flow (l - base)).entries k)) (lt-ltb l base below)

tell_factor : (base : ℕ) (flow : List SparseRow) (k l : ℕ) → base ≤ l → tell base flow k l ≡ neg_ℤ (coefficient (flow_at flow (l - base)).entries k)
unfolding tell
tell_factor base flow k l above = cond-false (nat_lt l base) (one_at k l) (neg_ℤ (coefficient (flow_at flow (l - base)).entries k)) (le-ltb l base above)

one_product : (c k : ℕ) (value : ℤ) → value *ℤ one_at k c ≡ cond (nat_eq c k) value (pos 0)
unfolding one_at
one_product c k value = by_test (nat_eq c k) value
  where
    by_test : (b : Bool) (value : ℤ) → value *ℤ cond b (pos 1) (pos 0) ≡ cond b value (pos 0)
    by_test true value = times_one value
    by_test false value = *ℤ-zero value

told_below : (base : ℕ) (flow : List SparseRow) (k : ℕ) (es : List Entry) → All (λ e. e.column < base) es → left_side es (tell base flow k) ≡ coefficient es k
told_below base flow k [] within = refl
told_below base flow k (e ∷ es) within =
    ap₂ ◌+ℤ◌ (ap (λ (z : ℤ). e.value *ℤ z) (tell_below base flow k e.column (All-head (λ (f : Entry). f.column < base) e es within)) ∙ one_product e.column k e.value)
    (told_below base flow k es (All-tail (λ (f : Entry). f.column < base) e es within))

pub parts_below : (base : ℕ) (turned : Bool) (e : Entry) (es : List Entry) → e.column < base → parts_of base turned (e ∷ es) ≡ parts_of base turned es
parts_below base turned e es below =
    cond-true (nat_lt e.column base) (parts_of base turned es) (record { flow = e.column - base; factor = cond turned (neg_ℤ e.value) e.value } ∷ parts_of base turned es) (lt-ltb e.column base below)

pub parts_above : (base : ℕ) (turned : Bool) (e : Entry) (es : List Entry) → base ≤ e.column →
    parts_of base turned (e ∷ es) ≡ record { flow = e.column - base; factor = cond turned (neg_ℤ e.value) e.value } ∷ parts_of base turned es
parts_above base turned e es above =
    cond-false (nat_lt e.column base) (parts_of base turned es) (record { flow = e.column - base; factor = cond turned (neg_ℤ e.value) e.value } ∷ parts_of base turned es) (le-ltb e.column base above)

-- the left side at the point is what the column has, less the weighed flow rows
told : (base : ℕ) (flow : List SparseRow) (k : ℕ) (es : List Entry) → k < base →
    left_side es (tell base flow k) ≡ coefficient es k -ℤ weighed flow (parts_of base false es) k
told base flow k [] in_base = refl
told base flow k (e ∷ es) in_base =
    let rest = told base flow k es in_base in
    elim (cases_lt e.column base) [
      | inl below ↦
          let here = ap (λ (z : ℤ). e.value *ℤ z) (tell_below base flow k e.column below) ∙ one_product e.column k e.value in
          let parts = ap (λ (ps : List Part). weighed flow ps k) (parts_below base false e es below) in
          omega (arith, ints)
      | inr above ↦
          let row = flow_at flow (e.column - base) in
          let here = ap (λ (z : ℤ). e.value *ℤ z) (tell_factor base flow k e.column above) ∙ times_negated e.value (coefficient row.entries k) in
          let parts = ap (λ (ps : List Part). weighed flow ps k) (parts_above base false e es above) in
          let own = other_column e.column k e.value (λ is. absurd (omega arith)) in
          omega (arith, ints)
    ]

-- each constant in its factor's column
pub tell_constant : ℕ → List SparseRow → ℕ → ℤ
tell_constant base flow l = cond (nat_lt l base) (pos 0) (flow_at flow (l - base)).constant

constant_below : (base : ℕ) (flow : List SparseRow) (l : ℕ) → l < base → tell_constant base flow l ≡ pos 0
unfolding tell_constant
constant_below base flow l below = cond-true (nat_lt l base) (pos 0) (flow_at flow (l - base)).constant (lt-ltb l base below)

constant_factor : (base : ℕ) (flow : List SparseRow) (l : ℕ) → base ≤ l → tell_constant base flow l ≡ (flow_at flow (l - base)).constant
unfolding tell_constant
constant_factor base flow l above = cond-false (nat_lt l base) (pos 0) (flow_at flow (l - base)).constant (le-ltb l base above)

constant_side : (base : ℕ) (flow : List SparseRow) (es : List Entry) → All (λ e. e.column < base) es → left_side es (tell_constant base flow) ≡ pos 0
constant_side base flow [] within = refl
constant_side base flow (e ∷ es) within =
    let here = ap (λ (z : ℤ). e.value *ℤ z) (constant_below base flow e.column (All-head (λ (f : Entry). f.column < base) e es within)) ∙ *ℤ-zero e.value in
    let rest = constant_side base flow es (All-tail (λ (f : Entry). f.column < base) e es within) in
    omega (arith, ints)

told_constant : (base : ℕ) (flow : List SparseRow) (es : List Entry) → left_side es (tell_constant base flow) ≡ weighed_constant flow (parts_of base false es)
told_constant base flow [] = refl
told_constant base flow (e ∷ es) =
    let rest = told_constant base flow es in
    elim (cases_lt e.column base) [
      | inl below ↦
          let here = ap (λ (z : ℤ). e.value *ℤ z) (constant_below base flow e.column below) ∙ *ℤ-zero e.value in
          let parts = ap (weighed_constant flow) (parts_below base false e es below) in
          omega (arith, ints)
      | inr above ↦
          let here = ap (λ (z : ℤ). e.value *ℤ z) (constant_factor base flow e.column above) in
          let parts = ap (weighed_constant flow) (parts_above base false e es above) in
          omega (arith, ints)
    ]

flow_here : (flow : List SparseRow) (j : ℕ) (r : SparseRow) → slice_get flow j ≡ Some r → flow_at flow j ≡ r
flow_here [] j r at = cc
flow_here (x ∷ xs) zero r at = cc
flow_here (x ∷ xs) (suc j) r at = flow_here xs j r at

-- the first working rows meet these points
pub start_tell : (base : ℕ) (flow : List SparseRow) (k : ℕ) → AreOver base flow → MeetsAll (begun_from base 0 flow) (pos 0) (tell base flow k)
start_tell base flow k over =
    begun_meets base flow (pos 0) (tell base flow k) (λ j r at.
    let side = told_below base flow k r.entries (all_at (λ (s : SparseRow). All (λ e. e.column < base) s.entries) flow j r over.within at) in
    let is : (base + j) - base ≡ j = omega arith in
    let here = tell_factor base flow k (base + j) (omega arith) ∙ ap (λ (i : ℕ). neg_ℤ (coefficient (flow_at flow i).entries k)) is
    ∙ ap (λ (s : SparseRow). neg_ℤ (coefficient s.entries k)) (flow_here flow j r at) in
    let none = zero-*ℤ r.constant in
    omega (arith, ints))

pub start_constant : (base : ℕ) (flow : List SparseRow) → AreOver base flow → MeetsAll (begun_from base 0 flow) (pos 1) (tell_constant base flow)
start_constant base flow over =
    begun_meets base flow (pos 1) (tell_constant base flow) (λ j r at.
    let side = constant_side base flow r.entries (all_at (λ (s : SparseRow). All (λ e. e.column < base) s.entries) flow j r over.within at) in
    let is : (base + j) - base ≡ j = omega arith in
    let here = constant_factor base flow (base + j) (omega arith) ∙ ap (λ (i : ℕ). (flow_at flow i).constant) is ∙ ap (λ (s : SparseRow). s.constant) (flow_here flow j r at) in
    let one = one_times r.constant in
    omega (arith, ints))

-- ---- the lemma of a pivot

-- what the factors weigh with their signs changed
turned_weighed : (base : ℕ) (flow : List SparseRow) (k : ℕ) (es : List Entry) → weighed flow (parts_of base true es) k ≡ neg_ℤ (weighed flow (parts_of base false es) k)
turned_weighed base flow k [] = refl
turned_weighed base flow k (e ∷ es) =
    let rest = turned_weighed base flow k es in
    elim (cases_lt e.column base) [
      | inl below ↦
          ap (λ (ps : List Part). weighed flow ps k) (parts_below base true e es below) ∙ rest
          ∙ ap (λ (ps : List Part). neg_ℤ (weighed flow ps k)) (sym (parts_below base false e es below))
      | inr above ↦
          let here = negated e.value (coefficient (flow_at flow (e.column - base)).entries k) in
          let first = ap (λ (ps : List Part). weighed flow ps k) (parts_above base true e es above) in
          let second = ap (λ (ps : List Part). weighed flow ps k) (parts_above base false e es above) in
          omega (arith, ints)
    ]

turned_constant : (base : ℕ) (flow : List SparseRow) (es : List Entry) → weighed_constant flow (parts_of base true es) ≡ neg_ℤ (weighed_constant flow (parts_of base false es))
turned_constant base flow [] = refl
turned_constant base flow (e ∷ es) =
    let rest = turned_constant base flow es in
    elim (cases_lt e.column base) [
      | inl below ↦
          ap (weighed_constant flow) (parts_below base true e es below) ∙ rest ∙ ap (λ (ps : List Part). neg_ℤ (weighed_constant flow ps)) (sym (parts_below base false e es below))
      | inr above ↦
          let here = negated e.value (flow_at flow (e.column - base)).constant in
          let first = ap (weighed_constant flow) (parts_above base true e es above) in
          let second = ap (weighed_constant flow) (parts_above base false e es above) in
          omega (arith, ints)
    ]

not_negative : (n : ℕ) → is_negative (pos n) ≡ false
not_negative n = le-ltb n 0 (omega arith)

-- with the sign of the factor, the weight is its absolute value times the number
signed : (f a total turned : ℤ) (t : Bool → ℤ) → t false ≡ f *ℤ a → t true ≡ neg_ℤ (t false) → t (is_negative f) ≡ pos (unsigned_abs f) *ℤ a
signed (pos n) a total turned t plain other = ap t (not_negative n) ∙ plain
signed (negsuc n) a total turned t plain other = let same = negated (negsuc n) a in omega (arith, ints)

-- no entry lies in a column where the row has 0
places_within : (base n : ℕ) (turned : Bool) (es : List Entry) → IsRising es → All (λ e. e.value ≢ pos 0) es → ((k : ℕ) → base + n ≤ k → coefficient es k ≡ pos 0) →
    All (λ p. p.flow < n) (parts_of base turned es)
places_within base n turned [] up nonzero zeros = All-nil (λ (p : Part). p.flow < n)
places_within base n turned (e ∷ es) up nonzero zeros =
    let first = first_coefficient e es e.column up refl in
    let some = All-head (λ (f : Entry). f.value ≢ pos 0) e es nonzero in
    let rest = places_within base n turned es (rising_tail e es up) (All-tail (λ (f : Entry). f.value ≢ pos 0) e es nonzero)
    (λ k high. elim (cases_eq e.column k) [
      | inl is ↦
          coefficient_absent es k (All-weaker (λ (f : Entry). e.column < f.column) (λ f. f.column ≢ k) (λ f h. omega arith) es (rising_above e es e.column (omega arith) up))
      | inr other ↦ sym (later_coefficient e es k other) ∙ zeros k high
    ]) in
    elim (cases_lt e.column base) [
      | inl below ↦ subst (All (λ (p : Part). p.flow < n)) (sym (parts_below base turned e es below)) rest
      | inr above ↦
          elim (cases_lt e.column (base + n)) [
            | inl within ↦
                subst (All (λ (p : Part). p.flow < n)) (sym (parts_above base turned e es above))
                (All-cons (λ (p : Part). p.flow < n) (record { flow = e.column - base; factor = cond turned (neg_ℤ e.value) e.value }) (parts_of base turned es) (omega arith) rest)
            | inr past ↦ absurd (some (sym first ∙ zeros e.column past))
          ]
    ]

-- the parts of a lemma are flow rows
pub parted_places : (moves counts : ℕ) (flow : List SparseRow) (r : SparseRow) (it : Lemma) → IsParted moves counts r it → IsRow r →
    ((k : ℕ) → (moves + counts) + length flow ≤ k → coefficient r.entries k ≡ pos 0) → All (λ p. p.flow < length flow) it.parts
parted_places moves counts flow r it p row bounded =
    subst (All (λ (q : Part). q.flow < length flow)) (sym p.parts) (places_within (moves + counts) (length flow) (is_negative p.factor) r.entries row.rising row.nonzero bounded)

abs_above : (f : ℤ) → f ≢ pos 0 → pos 0 <ℤ pos (unsigned_abs f)
abs_above f nonzero = let some = abs_positive f nonzero in omega (arith, ints)

pub parted_valid : (moves counts : ℕ) (flow : List SparseRow) (r : SparseRow) (it : Lemma) → IsParted moves counts r it → IsRow r →
    ((k : ℕ) → k < moves → coefficient r.entries k ≡ pos 0) → ((k : ℕ) → (moves + counts) + length flow ≤ k → coefficient r.entries k ≡ pos 0) →
    ((k : ℕ) → Meets r (pos 0) (tell (moves + counts) flow k)) → Meets r (pos 1) (tell_constant (moves + counts) flow) → IsValid moves counts flow it
parted_valid moves counts flow r it p row no_moves bounded on_tell on_constant =
    let base = moves + counts in
    let f = p.factor in
    record {
      positive = subst (λ (z : ℤ). pos 0 <ℤ z) (sym p.scale) (abs_above f p.nonzero);
      places = parted_places moves counts flow r it p row bounded;
      within = p.within;
      no_moves = λ k below.
          weigh k ∙ (signed f (pos 0) (pos 0) (pos 0) (λ t. weighed flow (parts_of base t r.entries) k)
          (by_column k (omega arith) ∙ no_moves k below ∙ sym (*ℤ-zero f)) (turned_weighed base flow k r.entries)) ∙ *ℤ-zero (pos (unsigned_abs f));
      counts_same = λ k below.
          weigh (moves + k) ∙ (signed f (coefficient it.row.entries k) (pos 0) (pos 0) (λ t. weighed flow (parts_of base t r.entries) (moves + k))
          (by_column (moves + k) (omega arith) ∙ sym (p.entries k below)) (turned_weighed base flow (moves + k) r.entries))
          ∙ ap (λ (z : ℤ). z *ℤ coefficient it.row.entries k) (sym p.scale);
      constant =
          ap (weighed_constant flow) p.parts
          ∙ signed f it.row.constant (pos 0) (pos 0) (λ t. weighed_constant flow (parts_of base t r.entries))
          (sym (told_constant base flow r.entries) ∙ on_constant ∙ one_times r.constant ∙ sym p.constant) (turned_constant base flow r.entries)
          ∙ ap (λ (z : ℤ). z *ℤ it.row.constant) (sym p.scale);
    }
  where
    weigh : (k : ℕ) → weighed flow it.parts k ≡ weighed flow (parts_of (moves + counts) (is_negative p.factor) r.entries) k
    weigh k = ap (λ (ps : List Part). weighed flow ps k) p.parts

    by_column : (k : ℕ) → k < moves + counts → weighed flow (parts_of (moves + counts) false r.entries) k ≡ coefficient r.entries k
    by_column k below =
        let at = told (moves + counts) flow k r.entries below in
        let on = on_tell k in
        let none = zero-*ℤ r.constant in
        omega (arith, ints)
