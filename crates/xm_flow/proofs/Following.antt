-- A lemma holds where the flow rows of its parts do.
use Rattle.std.proofs.Common.{◌≡◌, ◌≢◌, ℕ, zero, suc, ◌+◌, ◌-◌, ◌<◌, ◌≤◌, inl, inr, List, [], ◌∷◌, ◌++◌, Bool, true, false, cond, nat_eq, refl, sym, ◌∙◌, ap, ap₂, arith, pos, ℤ, ◌+ℤ◌, ◌-ℤ◌, ◌*ℤ◌, ◌<ℤ◌, All}
use Rattle.std.proofs.lemmas.Bool.{cases_eq, cases_lt}
use Rattle.std.proofs.lemmas.Int.{ints}
use Rattle.std.proofs.lemmas.List.Elements.{All-head, All-tail, All-weaker}
use Rattle.std.proofs.Math.IntN.{*ℤ-zero}
use Rattle.xm_rows.specs.Lemmas.Entries.{coefficient-append, coefficient_absent, own_column, other_column}
use Rattle.xm_rows.specs.Lemmas.Integers.{assoc, distrib, one_factor, one_times}
use Rattle.xm_rows.specs.Lemmas.Meeting.{combined_sides}
use Rattle.xm_rows.specs.Lemmas.Sums.{left_side-append}
use Rattle.xm_rows.specs.Points.{Meets}
use Rattle.xm_rows.specs.Row.{SparseRow, coefficient, left_side}
use Rattle.xm_rows.specs.declared.row.Entry.{Entry}
use Rattle.xm_flow.specs.ValidLemma.{IsValid, Lemma, flow_at, weighed, weighed_constant}
use Rattle.xm_flow.specs.declared.invariant.Part.{Part}

-- ---- entries taken a number of times

times_all : ℤ → List Entry → List Entry
times_all f [] = []
times_all f (e ∷ es) = record { column = e.column; value = f *ℤ e.value } ∷ times_all f es

times_choice : (b : Bool) (f z : ℤ) → cond b (f *ℤ z) (pos 0) ≡ f *ℤ cond b z (pos 0)
times_choice true f z = refl
times_choice false f z = sym (*ℤ-zero f)

times_coefficient : (f : ℤ) (es : List Entry) (k : ℕ) → coefficient (times_all f es) k ≡ f *ℤ coefficient es k
unfolding times_all
times_coefficient f [] k = sym (*ℤ-zero f)
times_coefficient f (e ∷ es) k =
    ap₂ ◌+ℤ◌ (times_choice (nat_eq e.column k) f e.value) (times_coefficient f es k) ∙ sym (distrib f (cond (nat_eq e.column k) e.value (pos 0)) (coefficient es k))

times_side : (f : ℤ) (es : List Entry) (x : ℕ → ℤ) → left_side (times_all f es) x ≡ f *ℤ left_side es x
unfolding times_all
times_side f [] x = sym (*ℤ-zero f)
times_side f (e ∷ es) x = ap₂ ◌+ℤ◌ (sym (assoc f e.value (x e.column))) (times_side f es x) ∙ sym (distrib f (e.value *ℤ x e.column) (left_side es x))

-- all flow rows of the parts, each taken as often as its factor says
taken : List SparseRow → List Part → List Entry
taken flow [] = []
taken flow (p ∷ ps) = times_all p.factor (flow_at flow p.flow).entries ++ taken flow ps

taken_coefficient : (flow : List SparseRow) (ps : List Part) (k : ℕ) → coefficient (taken flow ps) k ≡ weighed flow ps k
unfolding taken
taken_coefficient flow [] k = refl
taken_coefficient flow (p ∷ ps) k =
    coefficient-append (times_all p.factor (flow_at flow p.flow).entries) (taken flow ps) k
    ∙ ap₂ ◌+ℤ◌ (times_coefficient p.factor (flow_at flow p.flow).entries k) (taken_coefficient flow ps k)

flow_meets : (flow : List SparseRow) (x : ℕ → ℤ) (i : ℕ) → All (λ r. Meets r (pos 1) x) flow → Meets (flow_at flow i) (pos 1) x
flow_meets [] x i all = sym (one_times (pos 0))
flow_meets (r ∷ rs) x zero all = All-head (λ (s : SparseRow). Meets s (pos 1) x) r rs all
flow_meets (r ∷ rs) x (suc i) all = flow_meets rs x i (All-tail (λ (s : SparseRow). Meets s (pos 1) x) r rs all)

taken_side : (flow : List SparseRow) (ps : List Part) (x : ℕ → ℤ) → All (λ r. Meets r (pos 1) x) flow → left_side (taken flow ps) x ≡ weighed_constant flow ps
unfolding taken
taken_side flow [] x all = refl
taken_side flow (p ∷ ps) x all =
    left_side-append (times_all p.factor (flow_at flow p.flow).entries) (taken flow ps) x
    ∙ ap₂ ◌+ℤ◌ (times_side p.factor (flow_at flow p.flow).entries x ∙ ap (λ (z : ℤ). p.factor *ℤ z) (flow_meets flow x p.flow all ∙ one_times (flow_at flow p.flow).constant))
    (taken_side flow ps x all)

-- a flow row has nothing from a column on
flow_none : (flow : List SparseRow) (base i k : ℕ) → All (λ r. All (λ e. e.column < base) r.entries) flow → base ≤ k → coefficient (flow_at flow i).entries k ≡ pos 0
flow_none [] base i k all past = refl
flow_none (r ∷ rs) base zero k all past =
    coefficient_absent r.entries k (All-weaker (λ (e : Entry). e.column < base) (λ e. e.column ≢ k) (λ e p. omega arith) r.entries (All-head (λ (s : SparseRow). All (λ e. e.column < base) s.entries) r rs all))
flow_none (r ∷ rs) base (suc i) k all past = flow_none rs base i k (All-tail (λ (s : SparseRow). All (λ e. e.column < base) s.entries) r rs all) past

weighed_none : (flow : List SparseRow) (ps : List Part) (base k : ℕ) → All (λ r. All (λ e. e.column < base) r.entries) flow → base ≤ k → weighed flow ps k ≡ pos 0
weighed_none flow [] base k all past = refl
weighed_none flow (p ∷ ps) base k all past =
    let here = ap (λ (z : ℤ). p.factor *ℤ z) (flow_none flow base p.flow k all past) ∙ *ℤ-zero p.factor in
    let rest = weighed_none flow ps base k all past in
    omega (arith, ints)

-- ---- columns moved up behind those of moves

moved_up : ℕ → List Entry → List Entry
moved_up m [] = []
moved_up m (e ∷ es) = record { column = m + e.column; value = e.value } ∷ moved_up m es

up_side : (m counts : ℕ) (es : List Entry) (x n : ℕ → ℤ) → All (λ e. e.column < counts) es → ((k : ℕ) → k < counts → x (m + k) ≡ n k) → left_side (moved_up m es) x ≡ left_side es n
unfolding moved_up
up_side m counts [] x n within h = refl
up_side m counts (e ∷ es) x n within h =
    ap₂ ◌+ℤ◌ (ap (λ (z : ℤ). e.value *ℤ z) (h e.column (All-head (λ (f : Entry). f.column < counts) e es within)))
    (up_side m counts es x n (All-tail (λ (f : Entry). f.column < counts) e es within) h)

up_column : (m c k : ℕ) (value : ℤ) → cond (nat_eq (m + c) (m + k)) value (pos 0) ≡ cond (nat_eq c k) value (pos 0)
up_column m c k value =
    elim (cases_eq c k) [
      | inl is ↦ own_column (m + c) (m + k) value (omega arith) ∙ sym (own_column c k value is)
      | inr other ↦ other_column (m + c) (m + k) value (λ e. other (omega arith)) ∙ sym (other_column c k value other)
    ]

up_coefficient : (m : ℕ) (es : List Entry) (k : ℕ) → coefficient (moved_up m es) (m + k) ≡ coefficient es k
unfolding moved_up
up_coefficient m [] k = refl
up_coefficient m (e ∷ es) k = ap₂ ◌+ℤ◌ (up_column m e.column k e.value) (up_coefficient m es k)

up_none : (m : ℕ) (es : List Entry) (k : ℕ) → k < m → coefficient (moved_up m es) k ≡ pos 0
unfolding moved_up
up_none m [] k below = refl
up_none m (e ∷ es) k below =
    let here = other_column (m + e.column) k e.value (λ is. absurd (omega arith)) in
    let rest = up_none m es k below in
    omega (arith, ints)

lemma_columns : (moves counts : ℕ) (flow : List SparseRow) (it : Lemma) → IsValid moves counts flow it → All (λ r. All (λ e. e.column < moves + counts) r.entries) flow → (k : ℕ) →
    it.scale *ℤ coefficient (moved_up moves it.row.entries) k ≡ (pos 1 *ℤ coefficient (taken flow it.parts) k) -ℤ (pos 0 *ℤ pos 0)
lemma_columns moves counts flow it v within k =
    let one = one_times (coefficient (taken flow it.parts) k) in
    let all = taken_coefficient flow it.parts k in
    elim (cases_lt k moves) [
      | inl below ↦
          let first = ap (λ (z : ℤ). it.scale *ℤ z) (up_none moves it.row.entries k below) ∙ *ℤ-zero it.scale in
          let second = v.no_moves k below in
          omega (arith, ints)
      | inr above ↦
          let l = k - moves in
          let is : moves + l ≡ k = omega arith in
          let first = ap (λ (j : ℕ). it.scale *ℤ coefficient (moved_up moves it.row.entries) j) (sym is) ∙ ap (λ (z : ℤ). it.scale *ℤ z) (up_coefficient moves it.row.entries l) in
          elim (cases_lt l counts) [
            | inl low ↦
                let second = ap (weighed flow it.parts) (sym is) ∙ v.counts_same l low in
                omega (arith, ints)
            | inr past ↦
                let gone = coefficient_absent it.row.entries l (All-weaker (λ (e : Entry). e.column < counts) (λ e. e.column ≢ l) (λ e p. omega arith) it.row.entries v.within) in
                let here = ap (λ (z : ℤ). it.scale *ℤ z) gone ∙ *ℤ-zero it.scale in
                let second = weighed_none flow it.parts (moves + counts) k within (omega arith) in
                omega (arith, ints)
          ]
    ]

positive_nonzero : (z : ℤ) → pos 0 <ℤ z → z ≢ pos 0
positive_nonzero z positive e = absurd (omega (arith, ints))

pub lemma_meets : (moves counts : ℕ) (flow : List SparseRow) (it : Lemma) (x n : ℕ → ℤ) → IsValid moves counts flow it → All (λ r. All (λ e. e.column < moves + counts) r.entries) flow →
    All (λ r. Meets r (pos 1) x) flow → ((k : ℕ) → k < counts → x (moves + k) ≡ n k) → Meets it.row (pos 1) n
lemma_meets moves counts flow it x n v within all same =
    let whole = combined_sides (moved_up moves it.row.entries) (taken flow it.parts) [] it.scale (pos 1) (pos 0) x (lemma_columns moves counts flow it v within) in
    let one = one_times (left_side (taken flow it.parts) x) in
    let side = taken_side flow it.parts x all in
    let up = ap (λ (z : ℤ). it.scale *ℤ z) (up_side moves counts it.row.entries x n v.within same) in
    let constant = v.constant in
    let last = ap (λ (z : ℤ). it.scale *ℤ z) (one_times it.row.constant) in
    one_factor it.scale (left_side it.row.entries n) (pos 1 *ℤ it.row.constant) (positive_nonzero it.scale v.positive) (omega (arith, ints))
