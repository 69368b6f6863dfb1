-- Points of the first tableau, and the basic point of a tableau.
use Rattle.std.proofs.Common.{◌≡◌, ◌≢◌, ℕ, zero, suc, ◌+◌, ◌<◌, ◌≤◌, cond, nat_eq, inl, inr, List, [], ◌∷◌, ◌++◌}
use Rattle.std.proofs.Common.{length, refl, sym, ◌∙◌, ap, subst, arith, pos, ℤ, ◌+ℤ◌, ◌-ℤ◌, ◌*ℤ◌, ◌<ℤ◌, ◌≤ℤ◌, All}
use Rattle.std.proofs.Common.{eq-eqb, ne_eqb}
use Rattle.std.proofs.lemmas.Bool.{cases_eq, cases_lt, cond-true, cond-false}
use Rattle.std.proofs.lemmas.List.Elements.{All-tail}
use Rattle.std.proofs.lemmas.Int.{ints}
use Rattle.std.proofs.Math.IntN.{*ℤ_comm, *ℤ-zero, zero-*ℤ, +ℤ_idl}
use Rattle.xm_rows.specs.declared.row.Entry.{Entry}
use Rattle.xm_rows.specs.Row.{SparseRow, coefficient, left_side}
use Rattle.xm_rows.specs.Points.{Meets}
use Rattle.xm_rows.specs.Lemmas.Entries.{own_column, other_column, coefficient-append}
use Rattle.xm_rows.specs.Lemmas.Integers.{distrib, distrib_right, assoc, one_times, times_negated, times_difference}
use Rattle.xm_rows.specs.Lemmas.Integers.{crossed}
use Rattle.xm_rows.specs.Lemmas.Meeting.{column_sum, combined_sides}
use Rattle.xm_lp.specs.declared.decision.Con.{Con}
use Rattle.xm_lp.specs.Start.{Tableau, AreBelow, row_at, slack_count, artificials, objective, start_rows, total}
use Rattle.xm_lp.specs.Start.{in_column, constant_of, IsTop}
use Rattle.xm_lp.specs.Pivot.{entry_at, constant_at, basic_at}
use Rattle.xm_lp.proofs.Signs.{times_up, times_positive, factor_up, sum_up}
use Rattle.xm_lp.proofs.Starting.{artificial_entries, first_rows}
use Rattle.xm_lp.proofs.Basis.{IsBasic, MeetsRows}

-- ---- left sides

pub side_append : (xs ys : List Entry) (x : ℕ → ℤ) → left_side (xs ++ ys) x ≡ left_side xs x +ℤ left_side ys x
side_append [] ys x = sym (+ℤ_idl (left_side ys x))
side_append (e ∷ xs) ys x = let rest = side_append xs ys x in omega (arith, ints)

pub same_sides : (a b : List Entry) (x : ℕ → ℤ) → ((k : ℕ) → coefficient a k ≡ coefficient b k) → left_side a x ≡
    left_side b x
same_sides a b x h =
    let is = combined_sides a b [] (pos 1) (pos 1) (pos 0) x (λ k. alone (coefficient a k) (coefficient b k) (h k)) in
    let one = one_times (left_side a x) in
    let two = one_times (left_side b x) in
    omega (arith, ints)
  where
    alone : (m n : ℤ) → m ≡ n → pos 1 *ℤ m ≡ (pos 1 *ℤ n) -ℤ (pos 0 *ℤ pos 0)
    alone m n e = let one = one_times m in let two = one_times n in omega (arith, ints)

side_add : (es : List Entry) (a b : ℕ → ℤ) → left_side es (λ k. a k +ℤ b k) ≡ left_side es a +ℤ left_side es b
side_add [] a b = refl
side_add (e ∷ es) a b =
    let rest = side_add es a b in
    let here = distrib e.value (a e.column) (b e.column) in
    omega (arith, ints)

side_none : (es : List Entry) → left_side es (λ k. pos 0) ≡ pos 0
side_none [] = refl
side_none (e ∷ es) = let rest = side_none es in let here = *ℤ-zero e.value in omega (arith, ints)

-- w in one column and 0 elsewhere
abbrev pub unit : ℕ → ℤ → ℕ → ℤ
unit j w k = cond (nat_eq j k) w (pos 0)

pub side_unit : (es : List Entry) (j : ℕ) (w : ℤ) → left_side es (unit j w) ≡ coefficient es j *ℤ w
side_unit [] j w = sym (zero-*ℤ w)
side_unit (e ∷ es) j w =
    let rest = side_unit es j w in
    let parts = distrib_right (cond (nat_eq e.column j) e.value (pos 0)) (coefficient es j) w in
    let here : e.value *ℤ unit j w e.column ≡ cond (nat_eq e.column j) e.value (pos 0) *ℤ w =
    elim (cases_eq e.column j) [
      | inl is ↦ ap (λ (z : ℤ). e.value *ℤ z) (own_column j e.column w (sym is)) ∙ sym (ap (λ (z : ℤ). z *ℤ w) (own_column e.column j e.value is))
      | inr other ↦
          ap (λ (z : ℤ). e.value *ℤ z) (other_column j e.column w (λ s. other (sym s))) ∙ *ℤ-zero e.value
          ∙ sym (ap (λ (z : ℤ). z *ℤ w) (other_column e.column j e.value other) ∙ zero-*ℤ w)
    ] in
    omega (arith, ints)

side_sum : (es : List Entry) (n : ℕ) (g : ℕ → ℕ → ℤ) → left_side es (λ k. column_sum n (λ i. g i k)) ≡
    column_sum n (λ i. left_side es (g i))
side_sum es zero g = side_none es
side_sum es (suc n) g =
    side_add es (λ k. column_sum n (λ i. g i k)) (g n) ∙ ap (λ (z : ℤ). z +ℤ left_side es (g n)) (side_sum es n g)

sum_none_below : (n : ℕ) (f : ℕ → ℤ) → ((k : ℕ) → k < n → f k ≡ pos 0) → column_sum n f ≡ pos 0
sum_none_below zero f h = refl
sum_none_below (suc n) f h = let rest = sum_none_below n f (λ k lt. h k (omega arith)) in let here = h n (omega arith) in omega (arith, ints)

pub sum_one : (n h : ℕ) (f : ℕ → ℤ) → h < n → ((k : ℕ) → k < n → k ≢ h → f k ≡ pos 0) → column_sum n f ≡ f h
sum_one zero h f lt others = absurd (omega arith)
sum_one (suc n) h f lt others =
    elim (cases_eq n h) [
      | inl is ↦
          let rest = sum_none_below n f (λ k below. others k (omega arith) (λ e. absurd (omega arith))) in
          let here = ap f is in
          omega (arith, ints)
      | inr other ↦
          let rest = sum_one n h f (omega arith) (λ k below differ. others k (omega arith) differ) in
          let here = others n (omega arith) other in
          omega (arith, ints)
    ]

-- ---- a point of the first tableau: the objective's column is minus the sum of the artificial columns

-- 1 in n columns from t on
abbrev pub units : ℕ → ℕ → List Entry
units t zero = []
units t (suc n) = record { column = t; value = pos 1 } ∷ units (suc t) n

abbrev flat : List SparseRow → List Entry
flat [] = []
flat (r ∷ rs) = r.entries ++ flat rs

flat_coefficient : (rs : List SparseRow) (k : ℕ) → coefficient (flat rs) k ≡ total (in_column k) rs
flat_coefficient [] k = refl
flat_coefficient (r ∷ rs) k =
    coefficient-append r.entries (flat rs) k ∙ ap (λ (z : ℤ). coefficient r.entries k +ℤ z) (flat_coefficient rs k)

flat_side : (rs : List SparseRow) (m : ℤ) (x : ℕ → ℤ) → ((i : ℕ) → i < length rs → Meets (row_at rs i) m x) →
    left_side (flat rs) x ≡ m *ℤ total constant_of rs
flat_side [] m x h = sym (*ℤ-zero m)
flat_side (r ∷ rs) m x h =
    let rest = flat_side rs m x (λ i lt. h (suc i) (omega arith)) in
    let here = h 0 (omega arith) in
    let parts = distrib m r.constant (total constant_of rs) in
    let apart = side_append r.entries (flat rs) x in
    omega (arith, ints)

units_before : (t n k : ℕ) → k < t → coefficient (units t n) k ≡ pos 0
units_before t zero k lt = refl
units_before t (suc n) k lt =
    let rest = units_before (suc t) n k (omega arith) in
    let here = other_column t k (pos 1) (λ e. absurd (omega arith)) in
    omega (arith, ints)

-- beyond the slacks the start rows have 1 in their artificial columns and nothing else
units_are : (columns s t k : ℕ) (constraints : List Con) → AreBelow columns constraints → columns ≤ s →
    s + slack_count constraints ≤ k →
    total (in_column k) (start_rows s t constraints) ≡ coefficient (units t (length constraints)) k
units_are columns s t k [] below over beyond = refl
units_are columns s t k (c ∷ cs) below over beyond =
    let here = artificial_entries columns s t k 0 (c ∷ cs) below over beyond (omega arith) in
    let moved : cond (nat_eq (t + 0) k) (pos 1) (pos 0) ≡ cond (nat_eq t k) (pos 1) (pos 0) = ap (λ (n : ℕ). cond (nat_eq n k) (pos 1) (pos 0)) (omega arith) in
    let rest = units_are columns (cond c.equal 0 1 + s) (suc t) k cs (All-tail (λ c. All (λ e. e.column < columns) c.row.entries) c cs below) (omega arith) (omega arith) in
    omega (arith, ints)

pub units_up : (t n : ℕ) (x : ℕ → ℤ) → ((k : ℕ) → t ≤ k → k < t + n → pos 0 ≤ℤ x k) → pos 0 ≤ℤ left_side (units t n) x
units_up t zero x h = omega (arith, ints)
units_up t (suc n) x h =
    let rest = units_up (suc t) n x (λ k low high. h k (omega arith) (omega arith)) in
    let here = h t (omega arith) (omega arith) in
    let one = one_times (x t) in
    omega (arith, ints)

pub units_gone : (t n : ℕ) (x : ℕ → ℤ) → ((k : ℕ) → t ≤ k → k < t + n → pos 0 ≤ℤ x k) →
    left_side (units t n) x ≤ℤ pos 0 →
    (k : ℕ) → t ≤ k → k < t + n → x k ≡ pos 0
units_gone t zero x h none k low high = absurd (omega arith)
units_gone t (suc n) x h none k low high =
    let rest = units_up (suc t) n x (λ k low high. h k (omega arith) (omega arith)) in
    let here = h t (omega arith) (omega arith) in
    let one = one_times (x t) in
    elim (cases_eq t k) [
      | inl is ↦ subst (λ (n : ℕ). x n ≡ pos 0) is (omega (arith, ints))
      | inr other ↦ units_gone (suc t) n x (λ k low high. h k (omega arith) (omega arith)) (omega (arith, ints)) k (omega arith) (omega arith)
    ]

pub objective_is : (constraints : List Con) (columns : ℕ) (top : SparseRow) (m : ℤ) (x : ℕ → ℤ) →
    AreBelow columns constraints →
    IsTop (start_rows columns (artificials constraints columns) constraints) (artificials constraints columns) (objective constraints columns) top →
    MeetsRows (first_rows constraints columns top) m x →
    x (objective constraints columns) +ℤ left_side (units (artificials constraints columns) (length constraints)) x ≡ pos 0
objective_is constraints columns top m x below is_top meets =
    let t = artificials constraints columns in
    let o = objective constraints columns in
    let rows = start_rows columns t constraints in
    let at_top = meets.each 0 (omega arith) in
    let at_rows = flat_side rows m x (λ i lt. meets.each (suc i) (omega arith)) in
    let left = side_append top.entries (flat rows) x in
    let same = same_sides (top.entries ++ flat rows) (record { column = o; value = pos 1 } ∷ units t (length constraints)) x
    (λ k. coefficient-append top.entries (flat rows) k ∙ ap (λ (z : ℤ). coefficient top.entries k +ℤ z)
    (flat_coefficient rows k) ∙ at_column k) in
    let constants = ap (λ (z : ℤ). m *ℤ z) is_top.constant ∙ times_negated m (total constant_of rows) in
    let one = one_times (x o) in
    omega (arith, ints)
  where
    at_column : (k : ℕ) → coefficient top.entries k +ℤ total (in_column k)
        (start_rows columns (artificials constraints columns) constraints)
        ≡ coefficient (record { column = objective constraints columns; value = pos 1 } ∷ units (artificials constraints columns) (length constraints)) k
    at_column k =
        elim (cases_lt k (artificials constraints columns)) [
          | inl low ↦
              let sums = is_top.sums k low in
              let before = units_before (artificials constraints columns) (length constraints) k low in
              let other = other_column (objective constraints columns) k (pos 1) (λ e. absurd (omega arith)) in
              omega (arith, ints)
          | inr high ↦
              let units = units_are columns columns (artificials constraints columns) k constraints below (omega arith) (omega arith) in
              elim (cases_eq (objective constraints columns) k) [
                | inl is ↦
                    let own = own_column (objective constraints columns) k (pos 1) is in
                    let top_own = ap (coefficient top.entries) (sym is) ∙ is_top.own in
                    omega (arith, ints)
                | inr differ ↦
                    let other = other_column (objective constraints columns) k (pos 1) differ in
                    let none = is_top.others k (omega arith) (λ e. differ (sym e)) in
                    omega (arith, ints)
              ]
        ]

-- a point of the first tableau with no negative artificial column has no positive objective's column
pub objective_down : (constraints : List Con) (columns : ℕ) (top : SparseRow) (m : ℤ) (x : ℕ → ℤ) →
    AreBelow columns constraints →
    IsTop (start_rows columns (artificials constraints columns) constraints) (artificials constraints columns) (objective constraints columns) top →
    MeetsRows (first_rows constraints columns top) m x → ((k : ℕ) → k ≢ objective constraints columns → pos 0 ≤ℤ x k) →
    x (objective constraints columns) ≤ℤ pos 0
objective_down constraints columns top m x below is_top meets up =
    let is = objective_is constraints columns top m x below is_top meets in
    let units = units_up (artificials constraints columns) (length constraints) x (λ k low high. up k (λ e. absurd (omega arith))) in
    omega (arith, ints)

-- ---- the basic point

-- whole numbers q that solve e q = m c in each of n rows, for one positive m
record Scaled (n : ℕ) (e c : ℕ → ℤ) : Type 0 where
  pub m : ℤ
  pub q : ℕ → ℤ
  pub up : pos 0 <ℤ m
  pub each : (i : ℕ) → i < n → e i *ℤ q i ≡ m *ℤ c i

scaled : (n : ℕ) (e c : ℕ → ℤ) → ((i : ℕ) → i < n → pos 0 <ℤ e i) → Scaled n e c
scaled zero e c h = record { m = pos 1; q = λ i. pos 0; up = omega (arith, ints); each = λ i lt. absurd (omega arith) }
scaled (suc n) e c h = more (scaled n e c (λ i lt. h i (omega arith)))
  where
    more : Scaled n e c → Scaled (suc n) e c
    more s = record {
      m = s.m *ℤ e n;
      q = λ i. cond (nat_eq i n) (s.m *ℤ c n) (s.q i *ℤ e n);
      up = times_positive s.m (e n) s.up (h n (omega arith));
      each = λ i lt. elim (cases_eq i n) [
        | inl is ↦
            ap (λ (z : ℤ). e i *ℤ z) (cond-true {A = ℤ} (nat_eq i n) (s.m *ℤ c n) (s.q i *ℤ e n) (eq-eqb i n is))
            ∙ ap (λ (k : ℕ). e k *ℤ (s.m *ℤ c n)) is ∙ crossed s.m (e n) (c n) ∙ assoc s.m (e n) (c n) ∙ sym (ap (λ (k : ℕ). (s.m *ℤ e n) *ℤ c k) is)
        | inr other ↦
            ap (λ (z : ℤ). e i *ℤ z) (cond-false {A = ℤ} (nat_eq i n) (s.m *ℤ c n) (s.q i *ℤ e n) (ne_eqb i n other))
            ∙ assoc (e i) (s.q i) (e n) ∙ ap (λ (z : ℤ). z *ℤ e n) (s.each i (omega arith)) ∙ sym (assoc s.m (c i) (e n)) ∙ ap (λ (z : ℤ). s.m *ℤ z) (*ℤ_comm (c i) (e n)) ∙ assoc s.m (e n) (c i)
      ];
    }

-- a point of the tableau, over m, where column j has the number w and each basic column what its row then leaves
pub record Located (t : Tableau) (j : ℕ) (w : ℤ) : Type 0 where
  pub m : ℤ
  pub x : ℕ → ℤ
  pub up : pos 0 <ℤ m
  pub meets : MeetsRows t.rows m x
  pub signs : (k : ℕ) → k ≢ basic_at t 0 → pos 0 ≤ℤ x k
  pub first : 0 < length t.rows → j ≢ basic_at t 0 → entry_at t 0 (basic_at t 0) *ℤ x (basic_at t 0) ≡
      m *ℤ (constant_at t 0 -ℤ (entry_at t 0 j *ℤ w))
  pub basics : w ≡ pos 0 → (i : ℕ) → i < length t.rows → entry_at t i (basic_at t i) *ℤ x (basic_at t i) ≡
      m *ℤ constant_at t i
  pub others : w ≡ pos 0 → (k : ℕ) → ((i : ℕ) → i < length t.rows → basic_at t i ≢ k) → x k ≡ pos 0

-- the basic columns differ
pub basics_differ : (t : Tableau) (i h : ℕ) → IsBasic t → i < length t.rows → h < length t.rows → i ≢ h →
    basic_at t i ≢ basic_at t h
basics_differ t i h basic in_i in_h other same =
    let own = basic.own h in_h in
    let none = basic.apart i h in_i in_h (λ e. other (sym e)) in
    let moved = ap (entry_at t h) same in
    absurd (omega (arith, ints))

unit_up : (j k : ℕ) (w : ℤ) → pos 0 ≤ℤ w → pos 0 ≤ℤ unit j w k
unit_up j k w up =
    elim (cases_eq j k) [
      | inl is ↦ subst (λ (z : ℤ). pos 0 ≤ℤ z) (sym (own_column j k w is)) up
      | inr other ↦ subst (λ (z : ℤ). pos 0 ≤ℤ z) (sym (other_column j k w other)) (omega (arith, ints))
    ]

unit_none : (j k : ℕ) (w : ℤ) → w ≡ pos 0 → unit j w k ≡ pos 0
unit_none j k w none =
    elim (cases_eq j k) [ inl is ↦ own_column j k w is ∙ none | inr other ↦ other_column j k w other ]

module _ (t : Tableau) (j : ℕ) (w : ℤ) (basic : IsBasic t) (up_w : pos 0 ≤ℤ w)
    (enough : (i : ℕ) → 0 < i → i < length t.rows → pos 0 ≤ℤ (constant_at t i -ℤ (entry_at t i j *ℤ w)))
    (s : Scaled (length t.rows) (λ i. entry_at t i (basic_at t i))
    (λ i. constant_at t i -ℤ (entry_at t i j *ℤ w))) where
  abbrev in_basics : ℕ → ℤ
  in_basics k = column_sum (length t.rows) (λ i. unit (basic_at t i) (s.q i) k)

  abbrev place : ℕ → ℤ
  place k = unit j (s.m *ℤ w) k +ℤ in_basics k

  at_basic : (h : ℕ) → h < length t.rows → in_basics (basic_at t h) ≡ s.q h
  at_basic h lt =
      sum_one (length t.rows) h (λ i. unit (basic_at t i) (s.q i) (basic_at t h)) lt
      (λ i below other. other_column (basic_at t i) (basic_at t h) (s.q i) (basics_differ t i h basic below lt other))
      ∙ own_column (basic_at t h) (basic_at t h) (s.q h) refl

  row_side : (h : ℕ) → h < length t.rows → left_side (row_at t.rows h).entries place ≡ s.m *ℤ constant_at t h
  row_side h lt =
      let es = (row_at t.rows h).entries in
      let parts = side_add es (unit j (s.m *ℤ w)) in_basics in
      let first = side_unit es j (s.m *ℤ w) ∙ crossed s.m (entry_at t h j) w in
      let second = side_sum es (length t.rows) (λ i. unit (basic_at t i) (s.q i))
      ∙ sum_one (length t.rows) h (λ i. left_side es (unit (basic_at t i) (s.q i))) lt
      (λ i below other. side_unit es (basic_at t i) (s.q i) ∙ ap (λ (z : ℤ). z *ℤ s.q i)
      (basic.apart i h below lt (λ e. other (sym e))) ∙ zero-*ℤ (s.q i))
      ∙ side_unit es (basic_at t h) (s.q h) ∙ s.each h lt in
      let apart = times_difference s.m (constant_at t h) (entry_at t h j *ℤ w) in
      omega (arith, ints)

  q_up : (i : ℕ) → 0 < i → i < length t.rows → pos 0 ≤ℤ s.q i
  q_up i some lt =
      factor_up (entry_at t i (basic_at t i)) (s.q i) (basic.own i lt)
      (subst (λ (z : ℤ). pos 0 ≤ℤ z) (sym (s.each i lt))
      (times_up s.m (constant_at t i -ℤ (entry_at t i j *ℤ w)) (omega (arith, ints, s.up)) (enough i some lt)))

  in_basics_up : (k : ℕ) → k ≢ basic_at t 0 → pos 0 ≤ℤ in_basics k
  in_basics_up k other =
      sum_up (length t.rows) (λ i. unit (basic_at t i) (s.q i) k)
      (λ i lt. elim (cases_eq i 0) [
        | inl is ↦ subst (λ (z : ℤ). pos 0 ≤ℤ z) (sym (other_column (basic_at t i) k (s.q i) (λ e. other (sym e ∙ ap (basic_at t) is)))) (omega (arith, ints))
        | inr some ↦ unit_up (basic_at t i) k (s.q i) (q_up i (omega arith) lt)
      ])

  free_none : (k : ℕ) → w ≡ pos 0 → unit j (s.m *ℤ w) k ≡ pos 0
  free_none k none = unit_none j k (s.m *ℤ w) (ap (λ (z : ℤ). s.m *ℤ z) none ∙ *ℤ-zero s.m)

  all_of_it : Located t j w
  all_of_it = record {
    m = s.m;
    x = place;
    up = s.up;
    meets = record { each = row_side };
    signs = λ k other.
        let first = unit_up j k (s.m *ℤ w) (times_up s.m w (omega (arith, ints, s.up)) up_w) in
        let second = in_basics_up k other in
        omega (arith, ints);
    first = λ some other.
        let none = other_column j (basic_at t 0) (s.m *ℤ w) other in
        let own = at_basic 0 some in
        let is : place (basic_at t 0) ≡ s.q 0 = omega (arith, ints) in
        ap (λ (z : ℤ). entry_at t 0 (basic_at t 0) *ℤ z) is ∙ s.each 0 some;
    basics = λ none i lt.
        let free = free_none (basic_at t i) none in
        let own = at_basic i lt in
        let is : place (basic_at t i) ≡ s.q i = omega (arith, ints) in
        let gone = ap (λ (z : ℤ). entry_at t i j *ℤ z) none ∙ *ℤ-zero (entry_at t i j) in
        let left : (constant_at t i -ℤ (entry_at t i j *ℤ w)) ≡ constant_at t i = omega (arith, ints) in
        ap (λ (z : ℤ). entry_at t i (basic_at t i) *ℤ z) is ∙ s.each i lt ∙ ap (λ (z : ℤ). s.m *ℤ z) left;
    others = λ none k other.
        let free = free_none k none in
        let rest = sum_none_below (length t.rows) (λ i. unit (basic_at t i) (s.q i) k) (λ i lt. other_column (basic_at t i) k (s.q i) (other i lt)) in
        omega (arith, ints);
  }

pub located : (t : Tableau) (j : ℕ) (w : ℤ) → IsBasic t → pos 0 ≤ℤ w →
    ((i : ℕ) → 0 < i → i < length t.rows → pos 0 ≤ℤ (constant_at t i -ℤ (entry_at t i j *ℤ w))) → Located t j w
located t j w basic up_w enough =
    all_of_it t j w basic up_w enough (scaled (length t.rows) (λ i. entry_at t i (basic_at t i)) (λ i. constant_at t i -ℤ (entry_at t i j *ℤ w)) basic.own)
