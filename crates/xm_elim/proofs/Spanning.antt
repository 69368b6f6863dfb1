-- What the lemmas leave open can be solved: packets that meet them have moves.
use Rattle.std.proofs.Common.{◌≡◌, ◌≢◌, ℕ, zero, suc, ◌+◌, ◌-◌, ◌<◌, ◌≤◌, ◌⊎◌, inl, inr, List, [], ◌∷◌, ◌++◌, length, map, slice_get, Some, cond, nat_eq, nat_lt, le-ltb, refl, sym, ◌∙◌, ap, ap₂, arith, pos, ℤ, ◌+ℤ◌, ◌-ℤ◌, ◌*ℤ◌, All}
use Rattle.std.proofs.lemmas.Bool.{cases_eq, cases_lt, lt-ltb, cond-true, cond-false}
use Rattle.std.proofs.lemmas.Int.{ints}
use Rattle.std.proofs.lemmas.List.Elements.{All-head, All-tail, All-cons, All-nil, All-weaker}
use Rattle.std.proofs.Math.IntN.{*ℤ-zero}
use Rattle.xm_flow.specs.ValidLemma.{Lemma}
use Rattle.xm_rows.specs.Lemmas.Entries.{coefficient_absent, first_coefficient, own_column, other_column, rising_above}
use Rattle.xm_rows.specs.Lemmas.Integers.{one_times, times_one}
use Rattle.xm_rows.specs.Lemmas.Meeting.{combined_sides}
use Rattle.xm_rows.specs.Points.{FirstFactorIsPositive, GivesBackPoints, KeepsPoints, Meets}
use Rattle.xm_rows.specs.Row.{IsRising, IsRow, SparseRow, coefficient, left_side}
use Rattle.xm_rows.specs.declared.row.Entry.{Entry}
use Rattle.xm_elim.specs.Basis.{AreOver, IsConsistent, Spans}
use Rattle.xm_elim.specs.Elimination.{Eliminates, IsParted, Pivots, begun, begun_from, none, with_one, without}
use Rattle.xm_elim.specs.declared.work.Status.{Status}
use Rattle.xm_elim.specs.declared.work.Status.TheVariants.{Gone, Pivot, Waiting}
use Rattle.xm_elim.specs.declared.work.Working.{Working}
use Rattle.xm_elim.proofs.Beginning.{all_at, begun_meets, begun_shaped, begun_side, begun_there}
use Rattle.xm_elim.proofs.Passing.{MeetsAll, reaches_meets, same_item, same_place}
use Rattle.xm_elim.proofs.Shaping.{IsShaped, reaches_shaped}
use Rattle.xm_elim.proofs.Solving.{Solves, reaches_back}

-- ---- the entries below a column

pub low : ℕ → List Entry → List Entry
low base [] = []
low base (e ∷ es) = cond (nat_lt e.column base) (e ∷ low base es) (low base es)

low_is : (base : ℕ) (e : Entry) (es : List Entry) → e.column < base → low base (e ∷ es) ≡ e ∷ low base es
unfolding low
low_is base e es below = cond-true (nat_lt e.column base) (e ∷ low base es) (low base es) (lt-ltb e.column base below)

low_not : (base : ℕ) (e : Entry) (es : List Entry) → base ≤ e.column → low base (e ∷ es) ≡ low base es
unfolding low
low_not base e es above = cond-false (nat_lt e.column base) (e ∷ low base es) (low base es) (le-ltb e.column base above)

pub low_coefficient : (base : ℕ) (es : List Entry) (k : ℕ) → k < base → coefficient (low base es) k ≡ coefficient es k
unfolding low
low_coefficient base [] k h = refl
low_coefficient base (e ∷ es) k h =
    elim (cases_lt e.column base) [
      | inl below ↦
          ap (λ (l : List Entry). coefficient l k) (low_is base e es below)
          ∙ ap (λ (z : ℤ). cond (nat_eq e.column k) e.value (pos 0) +ℤ z) (low_coefficient base es k h)
      | inr above ↦
          let rest = low_coefficient base es k h in
          let here = other_column e.column k e.value (λ is. absurd (omega arith)) in
          ap (λ (l : List Entry). coefficient l k) (low_not base e es above) ∙ (let same : coefficient (low base es) k ≡ cond (nat_eq e.column k) e.value (pos 0) +ℤ coefficient es k = omega (arith, ints) in same)
    ]

low_none : (base : ℕ) (es : List Entry) (k : ℕ) → base ≤ k → coefficient (low base es) k ≡ pos 0
unfolding low
low_none base [] k h = refl
low_none base (e ∷ es) k h =
    elim (cases_lt e.column base) [
      | inl below ↦
          let rest = low_none base es k h in
          let here = other_column e.column k e.value (λ is. absurd (omega arith)) in
          ap (λ (l : List Entry). coefficient l k) (low_is base e es below) ∙ (let same : cond (nat_eq e.column k) e.value (pos 0) +ℤ coefficient (low base es) k ≡ pos 0 = omega (arith, ints) in same)
      | inr above ↦ ap (λ (l : List Entry). coefficient l k) (low_not base e es above) ∙ low_none base es k h
    ]

low_side : (base : ℕ) (es : List Entry) (x : ℕ → ℤ) → ((k : ℕ) → base ≤ k → x k ≡ pos 0) → left_side (low base es) x ≡ left_side es x
unfolding low
low_side base [] x h = refl
low_side base (e ∷ es) x h =
    elim (cases_lt e.column base) [
      | inl below ↦ ap (λ (l : List Entry). left_side l x) (low_is base e es below) ∙ ap (λ (z : ℤ). (e.value *ℤ x e.column) +ℤ z) (low_side base es x h)
      | inr above ↦
          let rest = low_side base es x h in
          let here = ap (λ (z : ℤ). e.value *ℤ z) (h e.column above) ∙ *ℤ-zero e.value in
          ap (λ (l : List Entry). left_side l x) (low_not base e es above) ∙ (let same : left_side (low base es) x ≡ (e.value *ℤ x e.column) +ℤ left_side es x = omega (arith, ints) in same)
    ]

-- a row whose lower columns are 0 has entries from the column on alone
pub high_entries : (base : ℕ) (r : SparseRow) → IsRow r → ((k : ℕ) → k < base → coefficient r.entries k ≡ pos 0) → All (λ e. base ≤ e.column) r.entries
high_entries base r row zeros = by_first r.entries row.rising row.nonzero zeros
  where
    by_first : (es : List Entry) → IsRising es → All (λ e. e.value ≢ pos 0) es → ((k : ℕ) → k < base → coefficient es k ≡ pos 0) → All (λ e. base ≤ e.column) es
    by_first [] up nonzero zeros = All-nil (λ e. base ≤ e.column)
    by_first (e ∷ es) up nonzero zeros =
        elim (cases_lt e.column base) [
          | inl below ↦
              absurd (All-head (λ (f : Entry). f.value ≢ pos 0) e es nonzero (sym (first_coefficient e es e.column up refl) ∙ zeros e.column below))
          | inr above ↦
              All-cons (λ f. base ≤ f.column) e es above
              (All-weaker (λ (f : Entry). base < f.column) (λ f. base ≤ f.column) (λ f p. omega arith) es (rising_above e es base above up))
        ]

pub high_side : (base : ℕ) (es : List Entry) (x : ℕ → ℤ) → All (λ e. base ≤ e.column) es → ((k : ℕ) → base ≤ k → x k ≡ pos 0) → left_side es x ≡ pos 0
high_side base [] x high h = refl
high_side base (e ∷ es) x high h =
    let here = ap (λ (z : ℤ). e.value *ℤ z) (h e.column (All-head (λ (f : Entry). base ≤ f.column) e es high)) ∙ *ℤ-zero e.value in
    let rest = high_side base es x (All-tail (λ (f : Entry). base ≤ f.column) e es high) h in
    omega (arith, ints)

-- ---- a row over packets, with its columns moved up behind those of moves

moved_up : ℕ → List Entry → List Entry
moved_up m [] = []
moved_up m (e ∷ es) = record { column = m + e.column; value = e.value } ∷ moved_up m es

up_side : (m counts : ℕ) (es : List Entry) (x n : ℕ → ℤ) → All (λ e. e.column < counts) es → ((k : ℕ) → k < counts → x (m + k) ≡ n k) →
    left_side (moved_up m es) x ≡ left_side es n
unfolding moved_up
up_side m counts [] x n within h = refl
up_side m counts (e ∷ es) x n within h =
    ap₂ ◌+ℤ◌ (ap (λ (z : ℤ). e.value *ℤ z) (h e.column (All-head (λ (f : Entry). f.column < counts) e es within)))
    (up_side m counts es x n (All-tail (λ (f : Entry). f.column < counts) e es within) h)

up_column : (m c k : ℕ) (value : ℤ) → cond (nat_eq (m + c) (m + k)) value (pos 0) ≡ cond (nat_eq c k) value (pos 0)
up_column m c k value =
    elim (cases_eq c k) [
      | inl is ↦ own_column (m + c) (m + k) value (omega arith) ∙ sym (own_column c k value is)
      | inr other ↦ other_column (m + c) (m + k) value (λ e. other (omega arith)) ∙ sym (other_column c k value other)
    ]

up_coefficient : (m : ℕ) (es : List Entry) (k : ℕ) → coefficient (moved_up m es) (m + k) ≡ coefficient es k
unfolding moved_up
up_coefficient m [] k = refl
up_coefficient m (e ∷ es) k = ap₂ ◌+ℤ◌ (up_column m e.column k e.value) (up_coefficient m es k)

up_none : (m : ℕ) (es : List Entry) (k : ℕ) → k < m → coefficient (moved_up m es) k ≡ pos 0
unfolding moved_up
up_none m [] k below = refl
up_none m (e ∷ es) k below =
    let here = other_column (m + e.column) k e.value (λ is. absurd (omega arith)) in
    let rest = up_none m es k below in
    omega (arith, ints)

-- ---- the pivots

parted_columns : (moves counts : ℕ) (r : SparseRow) (it : Lemma) (parted : IsParted moves counts r it) → ((k : ℕ) → k < moves → coefficient r.entries k ≡ pos 0) → (k : ℕ) →
    parted.factor *ℤ coefficient (moved_up moves it.row.entries) k ≡ (pos 1 *ℤ coefficient (low (moves + counts) r.entries) k) -ℤ (pos 0 *ℤ pos 0)
parted_columns moves counts r it parted zeros k =
    elim (cases_lt k moves) [
      | inl below ↦
          let first = ap (λ (z : ℤ). parted.factor *ℤ z) (up_none moves it.row.entries k below) ∙ *ℤ-zero parted.factor in
          let second = low_coefficient (moves + counts) r.entries k (omega arith) ∙ zeros k below in
          let one = one_times (coefficient (low (moves + counts) r.entries) k) in
          omega (arith, ints)
      | inr above ↦
          let l = k - moves in
          let is : moves + l ≡ k = omega arith in
          let up : coefficient (moved_up moves it.row.entries) k ≡ coefficient it.row.entries l = ap (coefficient (moved_up moves it.row.entries)) (sym is) ∙ up_coefficient moves it.row.entries l in
          let first = ap (λ (z : ℤ). parted.factor *ℤ z) up in
          let one = one_times (coefficient (low (moves + counts) r.entries) k) in
          elim (cases_lt l counts) [
            | inl within ↦
                let here = parted.entries l within ∙ ap (coefficient r.entries) is in
                let second = low_coefficient (moves + counts) r.entries k (omega arith) in
                omega (arith, ints)
            | inr past ↦
                let gone = coefficient_absent it.row.entries l (All-weaker (λ (e : Entry). e.column < counts) (λ e. e.column ≢ l) (λ e p. omega arith) it.row.entries parted.within) in
                let here = ap (λ (z : ℤ). parted.factor *ℤ z) gone ∙ *ℤ-zero parted.factor in
                let second = low_none (moves + counts) r.entries k (omega arith) in
                omega (arith, ints)
          ]
    ]

-- a point of the lemma is one of its pivot
parted_meets : (moves counts : ℕ) (r : SparseRow) (it : Lemma) (x n : ℕ → ℤ) → IsParted moves counts r it →
    ((k : ℕ) → k < moves → coefficient r.entries k ≡ pos 0) → ((k : ℕ) → k < counts → x (moves + k) ≡ n k) → ((k : ℕ) → moves + counts ≤ k → x k ≡ pos 0) →
    Meets it.row (pos 1) n → Meets r (pos 1) x
parted_meets moves counts r it x n parted zeros same past on =
    let base = moves + counts in
    let up = up_side moves counts it.row.entries x n parted.within same in
    let whole = combined_sides (moved_up moves it.row.entries) (low base r.entries) [] parted.factor (pos 1) (pos 0) x (parted_columns moves counts r it parted zeros) in
    let lower = low_side base r.entries x past in
    let one = one_times (left_side (low base r.entries) x) in
    let first = ap (λ (z : ℤ). parted.factor *ℤ z) (up ∙ on ∙ one_times it.row.constant) in
    let constant = parted.constant in
    let last = one_times r.constant in
    omega (arith, ints)

-- ---- the list of pivots

slice_get-left : {X : Type 0} (xs ys : List X) (i : ℕ) (x : X) → slice_get xs i ≡ Some x → slice_get (xs ++ ys) i ≡ Some x
slice_get-left [] ys i x at = cc
slice_get-left (z ∷ xs) ys zero x at = at
slice_get-left (z ∷ xs) ys (suc i) x at = slice_get-left xs ys i x at

slice_get-last : {X : Type 0} (xs : List X) (x : X) → slice_get (xs ++ x ∷ []) (length xs) ≡ Some x
slice_get-last [] x = refl
slice_get-last (z ∷ xs) x = slice_get-last xs x

-- a row that is the pivot of a column of packets is listed
pub pivot_listed : (moves bound column : ℕ) (rows : List Working) (n : ℕ) (ps : List SparseRow) → IsShaped moves bound column rows → Pivots moves rows n ps →
    (j : ℕ) (w : Working) (k : ℕ) → slice_get rows j ≡ Some w → w.status ≡ Pivot (moves + k) → k < n → (i : ℕ) × (slice_get ps i ≡ Some w.row)
pivot_listed moves bound column rows zero ps h none j w k at status below = absurd (omega arith)
pivot_listed moves bound column rows (suc n) ps h (without before out) j w k at status below =
    elim (cases_eq k n) [
      | inl same ↦ absurd (out j w at (status ∙ ap (λ (c : ℕ). Pivot (moves + c)) same))
      | inr other ↦ pivot_listed moves bound column rows n ps h before j w k at status (omega arith)
    ]
pivot_listed moves bound column rows (suc n) next h (with_one {ps = ps} before i r at_i) j w k at status below =
    elim (cases_eq k n) [
      | inl same ↦
          let v : Working = record { row = r; status = Pivot (moves + n) } in
          let w_is : w.status ≡ Pivot (moves + n) = status ∙ ap (λ (c : ℕ). Pivot (moves + c)) same in
          elim (cases_eq j i) [
            | inl here ↦
                let is = same_item rows i v w at_i (sym (ap (slice_get rows) here) ∙ at) in
                (length ps, slice_get-last ps r ∙ ap (λ (u : Working). Some u.row) is)
            | inr apart ↦
                let gone = h.alone i v (moves + n) j w at_i refl apart at (λ e. pivot_works (moves + n) (sym w_is ∙ e)) in
                let leads = h.leads j w (moves + n) at w_is in
                absurd (leads.some gone)
          ]
      | inr other ↦
          let rest = pivot_listed moves bound column rows n ps h before j w k at status (omega arith) in
          (rest.0, slice_get-left ps (r ∷ []) rest.0 w.row rest.1)
    ]
  where
    pivot_works : (c : ℕ) → Pivot c ≡ Gone → ⊥
    pivot_works c e = cc

-- an item of a list with one more is one of the list, or the last
pub split_last : {X : Type 0} (xs : List X) (y : X) (i : ℕ) (x : X) → slice_get (xs ++ y ∷ []) i ≡ Some x → (slice_get xs i ≡ Some x) ⊎ ((i ≡ length xs) × (y ≡ x))
split_last [] y zero x at = let is : y ≡ x = cc in inr (refl, is)
split_last [] y (suc i) x at = cc
split_last (z ∷ xs) y zero x at = inl at
split_last (z ∷ xs) y (suc i) x at =
    elim (split_last xs y i x at) [ inl early ↦ inl early | inr last ↦ inr ((let e = last.0 in omega arith), last.1) ]

-- and what is listed is the pivot of one of the columns
pub pivot_at : (moves : ℕ) (rows : List Working) (n : ℕ) (ps : List SparseRow) → Pivots moves rows n ps → (i : ℕ) (r : SparseRow) → slice_get ps i ≡ Some r →
    (c : ℕ) × ((c < n) × ((j : ℕ) × (slice_get rows j ≡ Some (record { row = r; status = Pivot (moves + c) }))))
pivot_at moves rows zero ps none i r at = cc
pivot_at moves rows (suc n) ps (without before out) i r at =
    let rest = pivot_at moves rows n ps before i r at in (rest.0, (let below = rest.1.0 in omega arith, rest.1.1))
pivot_at moves rows (suc n) next (with_one {ps = ps} before j p at_j) i r at =
    elim (split_last ps p i r at) [
      | inl early ↦ let rest = pivot_at moves rows n ps before i r early in (rest.0, (let below = rest.1.0 in omega arith, rest.1.1))
      | inr last ↦ (n, (omega arith, (j, at_j ∙ ap (λ (x : SparseRow). Some (record { row = x; status = Pivot (moves + n) })) last.1)))
    ]

-- ---- the span

-- the packets as a point, with no moves and no factors
placed : (moves counts : ℕ) → (ℕ → ℤ) → ℕ → ℤ
placed moves counts n k = cond (nat_lt k moves) (pos 0) (cond (nat_lt k (moves + counts)) (n (k - moves)) (pos 0))

placed_packets : (moves counts : ℕ) (n : ℕ → ℤ) (k : ℕ) → k < counts → placed moves counts n (moves + k) ≡ n k
unfolding placed
placed_packets moves counts n k below =
    let is : (moves + k) - moves ≡ k = omega arith in
    cond-false (nat_lt (moves + k) moves) (pos 0) (cond (nat_lt (moves + k) (moves + counts)) (n ((moves + k) - moves)) (pos 0)) (le-ltb (moves + k) moves (omega arith))
    ∙ cond-true (nat_lt (moves + k) (moves + counts)) (n ((moves + k) - moves)) (pos 0) (lt-ltb (moves + k) (moves + counts) (omega arith))
    ∙ ap n is

placed_none : (moves counts : ℕ) (n : ℕ → ℤ) (k : ℕ) → moves + counts ≤ k → placed moves counts n k ≡ pos 0
unfolding placed
placed_none moves counts n k high =
    cond-false (nat_lt k moves) (pos 0) (cond (nat_lt k (moves + counts)) (n (k - moves)) (pos 0)) (le-ltb k moves (omega arith))
    ∙ cond-false (nat_lt k (moves + counts)) (n (k - moves)) (pos 0) (le-ltb k (moves + counts) high)

-- the point without what lies from a column on
cut : ℕ → (ℕ → ℤ) → ℕ → ℤ
cut base x k = cond (nat_lt k base) (x k) (pos 0)

cut_below : (base : ℕ) (x : ℕ → ℤ) (k : ℕ) → k < base → cut base x k ≡ x k
unfolding cut
cut_below base x k below = cond-true (nat_lt k base) (x k) (pos 0) (lt-ltb k base below)

cut_none : (base : ℕ) (x : ℕ → ℤ) (k : ℕ) → base ≤ k → cut base x k ≡ pos 0
unfolding cut
cut_none base x k high = cond-false (nat_lt k base) (x k) (pos 0) (le-ltb k base high)

side_as : (es : List Entry) (base : ℕ) (x y : ℕ → ℤ) → All (λ e. e.column < base) es → ((k : ℕ) → k < base → x k ≡ y k) → left_side es x ≡ left_side es y
side_as [] base x y within h = refl
side_as (e ∷ es) base x y within h =
    ap₂ ◌+ℤ◌ (ap (λ (z : ℤ). e.value *ℤ z) (h e.column (All-head (λ (f : Entry). f.column < base) e es within)))
    (side_as es base x y (All-tail (λ (f : Entry). f.column < base) e es within) h)

-- a point of the flow rows is one of the first working rows, with 0 for each factor
cut_meets : (base : ℕ) (flow : List SparseRow) (x : ℕ → ℤ) → AreOver base flow → All (λ r. Meets r (pos 1) x) flow → MeetsAll (begun_from base 0 flow) (pos 1) (cut base x)
cut_meets base flow x over meets =
    begun_meets base flow (pos 1) (cut base x) (λ j r at.
    let side = side_as r.entries base (cut base x) x (all_at (λ (s : SparseRow). All (λ e. e.column < base) s.entries) flow j r over.within at) (cut_below base x) in
    let none = cut_none base x (base + j) (omega arith) in
    let on = all_at (λ (s : SparseRow). Meets s (pos 1) x) flow j r meets at in
    omega (arith, ints))

-- a row that still waits at the end says nothing
waiting_meets : (moves base : ℕ) (rows : List Working) (bound : ℕ) (x z : ℕ → ℤ) → IsShaped moves bound base rows → MeetsAll rows (pos 1) z →
    ((k : ℕ) → base ≤ k → z k ≡ pos 0) → ((k : ℕ) → base ≤ k → x k ≡ pos 0) →
    (j : ℕ) (w : Working) → slice_get rows j ≡ Some w → w.status ≡ Waiting → Meets w.row (pos 1) x
waiting_meets moves base rows bound x z h on_z z_none x_none j w at waits =
    let high = high_entries base w.row (h.row j w at) (λ k below. h.waits j w k at waits below) in
    high_side base w.row.entries x high x_none ∙ sym (high_side base w.row.entries z high z_none) ∙ on_z j w at

-- the packets are a point of the rows at the end
placed_solves : (moves counts : ℕ) (flow : List SparseRow) (lemmas : List Lemma) (n z : ℕ → ℤ) (e : Eliminates moves counts flow lemmas) →
    IsShaped moves (moves + counts + length flow) (moves + counts) e.rows → MeetsAll e.rows (pos 1) z → ((k : ℕ) → moves + counts ≤ k → z k ≡ pos 0) →
    All (λ r. Meets r (pos 1) n) (map (λ (it : Lemma). it.row) lemmas) → Solves e.rows (pos 1) (placed moves counts n)
placed_solves moves counts flow lemmas n z e h on_z z_none on_n j w at works = by_status w.status refl
  where
    map_at : (ls : List Lemma) (i : ℕ) (it : Lemma) → slice_get ls i ≡ Some it → slice_get (map (λ (l : Lemma). l.row) ls) i ≡ Some it.row
    map_at [] i it found = cc
    map_at (l ∷ ls) zero it found = let is : l ≡ it = cc in ap (λ (m : Lemma). Some m.row) is
    map_at (l ∷ ls) (suc i) it found = map_at ls i it found

    by_status : (s : Status) → w.status ≡ s → Meets w.row (pos 1) (placed moves counts n)
    by_status Waiting is =
        waiting_meets moves (moves + counts) e.rows (moves + counts + length flow) (placed moves counts n) z h on_z z_none (placed_none moves counts n) j w at is
    by_status Gone is = absurd (works is)
    by_status (Pivot k) is =
        let leads = h.leads j w k at is in
        let from = leads.from in
        let below = leads.below in
        let c = k - moves in
        let same : k ≡ moves + c = omega arith in
        let listed = pivot_listed moves (moves + counts + length flow) (moves + counts) e.rows counts e.pivots h e.taken j w c at (is ∙ ap Pivot same) (omega arith) in
        let it = same_place e.pivots lemmas listed.0 w.row (sym e.whole) listed.1 in
        let parted = e.parted listed.0 w.row it.0 listed.1 it.1 in
        parted_meets moves counts w.row it.0 (placed moves counts n) n parted (λ l early. leads.before l (omega arith)) (placed_packets moves counts n) (placed_none moves counts n)
        (all_at (λ (r : SparseRow). Meets r (pos 1) n) (map (λ (l : Lemma). l.row) lemmas) listed.0 it.0.row on_n (map_at lemmas listed.0 it.0 it.1))

pub all_from : {X : Type 0} (P : X → Type 0) (xs : List X) → ((i : ℕ) (x : X) → slice_get xs i ≡ Some x → P x) → All P xs
all_from P [] h = All-nil P
all_from P (x ∷ xs) h = All-cons P x xs (h 0 x refl) (all_from P xs (λ i. h (suc i)))

-- back at the start
pub spans : KeepsPoints → GivesBackPoints → FirstFactorIsPositive → (moves counts : ℕ) (flow : List SparseRow) (lemmas : List Lemma) →
    AreOver (moves + counts) flow → IsConsistent flow → Eliminates moves counts flow lemmas → Spans moves counts flow (map (λ (it : Lemma). it.row) lemmas)
spans keeps gives first moves counts flow lemmas over consistent e n on_n =
    let base = moves + counts in
    let start = begun_from base 0 flow in
    let shaped = reaches_shaped first moves (base + length flow) base start e.rows e.reaches (begun_shaped moves base flow over) in
    let on_z = reaches_meets keeps moves base start e.rows (pos 1) (cut base consistent.x) e.reaches (cut_meets base flow consistent.x over consistent.meets) in
    let x = placed moves counts n in
    let solves = placed_solves moves counts flow lemmas n (cut base consistent.x) e shaped on_z (cut_none base consistent.x) on_n in
    let back = reaches_back gives first moves base start e.rows (pos 1) x e.reaches solves in
    record {
      times = back.factor;
      positive = back.positive;
      x = back.y;
      packets = λ k below. back.same (moves + k) (omega arith) ∙ ap (λ (z : ℤ). pos back.factor *ℤ z) (placed_packets moves counts n k below);
      solves = all_from (λ (r : SparseRow). Meets r (pos back.factor) back.y) flow (λ j r at.
          let w = begun base (0 + j) r in
          let on = back.solves j w (begun_there base 0 flow j r at) (not_gone) in
          let side = begun_side base (0 + j) r back.y in
          let none = back.same (base + (0 + j)) (omega arith) ∙ ap (λ (z : ℤ). pos back.factor *ℤ z) (placed_none moves counts n (base + (0 + j)) (omega arith)) ∙ *ℤ-zero (pos back.factor) in
          let one = ap (λ (z : ℤ). z *ℤ r.constant) (times_one (pos back.factor)) in
          omega (arith, ints));
    }
  where
    not_gone : Waiting ≡ Gone → ⊥
    not_gone e = cc
