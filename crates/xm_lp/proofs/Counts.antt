-- The counts of an end whose row 0 has the constant 0 meet the constraints.
use Rattle.std.proofs.Common.{◌≡◌, ◌≢◌, ◌⊎◌, ℕ, zero, suc, ◌+◌, ◌<◌, ◌≤◌, Bool, true, false, cond, inl, inr, List, []}
use Rattle.std.proofs.Common.{◌∷◌, ◌++◌, map, length, refl, sym, ◌∙◌, ap, subst, arith, pos, negsuc, neg_ℤ, ℤ, ◌+ℤ◌}
use Rattle.std.proofs.Common.{◌-ℤ◌, ◌*ℤ◌, ◌<ℤ◌, ◌≤ℤ◌, unsigned_abs, All}
use Rattle.std.specs.Int.{is_negative}
use Rattle.std.proofs.lemmas.Bool.{cases_eq, cases_lt}
use Rattle.std.proofs.lemmas.Int.{ints}
use Rattle.std.proofs.lemmas.List.{get_or_past}
use Rattle.std.proofs.lemmas.List.Elements.{All-head, All-tail}
use Rattle.std.proofs.Math.IntN.{*ℤ-zero}
use Rattle.xm_rows.specs.declared.row.Entry.{Entry}
use Rattle.xm_rows.specs.Row.{left_side}
use Rattle.xm_rows.specs.Points.{Meets}
use Rattle.xm_rows.specs.Lemmas.Integers.{distrib, negated, times_negated, one_times, one_factor, zero_factor, crossed}
use Rattle.xm_lp.specs.declared.decision.Con.{Con}
use Rattle.xm_lp.specs.Start.{Tableau, AreBelow, row_at, slack_count, artificials, objective, negated as negated_entry}
use Rattle.xm_lp.specs.Start.{turned, signed, slack_entries, start_row, start_rows}
use Rattle.xm_lp.specs.Pivot.{entry_at, constant_at, basic_at}
use Rattle.xm_lp.specs.Answer.{number_at, constraint_at, AreCounts}
use Rattle.xm_lp.specs.Right.{IsMet, MeetsAll}
use Rattle.xm_lp.proofs.Signs.{times_up, factor_up, factor_order, nonzero}
use Rattle.xm_lp.proofs.Refuting.{is_negative_up}
use Rattle.xm_lp.proofs.Starting.{start_count}
use Rattle.xm_lp.proofs.Points.{Located, side_append, units_gone, objective_is}
use Rattle.xm_lp.proofs.Sound.{IsSound, basic_point}

side_negated : (es : List Entry) (x : ℕ → ℤ) → left_side (map negated_entry es) x ≡ neg_ℤ (left_side es x)
side_negated [] x = refl
side_negated (e ∷ es) x =
    let rest = side_negated es x in
    let here = negated e.value (x e.column) in
    omega (arith, ints)

side_turned : (b : Bool) (es : List Entry) (x : ℕ → ℤ) → left_side (turned b es) x ≡ signed b (left_side es x)
side_turned true es x = side_negated es x
side_turned false es x = refl

-- what a slack takes away
slack_side : (equal : Bool) (s : ℕ) (x : ℕ → ℤ) → pos 0 ≤ℤ x s → left_side (slack_entries equal s) x ≤ℤ pos 0
slack_side true s x up = omega (arith, ints)
slack_side false s x up = let here = negated (pos 1) (x s) in let one = one_times (x s) in omega (arith, ints)

signed_abs : (b z m : ℤ) → signed (is_negative b) z ≡ m *ℤ pos (unsigned_abs b) → z ≡ m *ℤ b
signed_abs (pos n) z m e = ap (λ (t : Bool). signed t z) (sym (is_negative_up n)) ∙ e
signed_abs (negsuc n) z m e = let turned = times_negated m (negsuc n) in omega (arith, ints)

-- a point of a start row with nothing in its artificial column
row_met : (s t : ℕ) (c : Con) (m : ℤ) (x : ℕ → ℤ) → Meets (start_row s t c) m x → x t ≡ pos 0 →
    left_side c.row.entries x +ℤ left_side (slack_entries c.equal s) x ≡ m *ℤ c.row.constant
row_met s t c m x meets none =
    let turn = is_negative c.row.constant in
    let es = c.row.entries ++ slack_entries c.equal s in
    let apart = side_append (turned turn es) (record { column = t; value = pos 1 } ∷ []) x in
    let first = side_turned turn es x ∙ ap (signed turn) (side_append c.row.entries (slack_entries c.equal s) x) in
    let one = one_times (x t) in
    signed_abs c.row.constant (left_side c.row.entries x +ℤ left_side (slack_entries c.equal s) x) m (omega (arith, ints))

met_at : (m : ℤ) (c : Con) (s : ℕ) (x : ℕ → ℤ) → pos 0 ≤ℤ x s →
    left_side c.row.entries x +ℤ left_side (slack_entries c.equal s) x ≡ m *ℤ c.row.constant → IsMet c m x
met_at m c s x up is =
    let slack = slack_side c.equal s x up in
    record {
      at_least = omega (arith, ints);
      equal = λ yes.
          let none : left_side (slack_entries c.equal s) x ≡ pos 0 = ap (λ (b : Bool). left_side (slack_entries b s) x) yes in
          omega (arith, ints);
    }

rows_met : (s t i bound : ℕ) (constraints : List Con) (m : ℤ) (x : ℕ → ℤ) → i < length constraints →
    ((k : ℕ) → k < bound → pos 0 ≤ℤ x k) → s + slack_count constraints ≤ bound →
    Meets (row_at (start_rows s t constraints) i) m x → x (t + i) ≡ pos 0 → IsMet (constraint_at constraints i) m x
rows_met s t i bound [] m x lt up within meets none = absurd (omega arith)
rows_met s t zero bound (c ∷ cs) m x lt up within meets none =
    slack_or_none c.equal refl (row_met s t c m x meets (ap x (omega arith) ∙ none))
  where
    slack_or_none : (equal : Bool) → c.equal ≡ equal →
        left_side c.row.entries x +ℤ left_side (slack_entries c.equal s) x ≡ m *ℤ c.row.constant → IsMet c m x
    slack_or_none true e is =
        let none : left_side (slack_entries c.equal s) x ≡ pos 0 = ap (λ (b : Bool). left_side (slack_entries b s) x) e in
        record { at_least = omega (arith, ints); equal = λ yes. omega (arith, ints) }
    slack_or_none false e is =
        let one : slack_count (c ∷ []) ≡ 1 = ap (λ (b : Bool). cond b 0 1 + 0) e in
        met_at m c s x (up s (omega (arith, one, within))) is
rows_met s t (suc i) bound (c ∷ cs) m x lt up within meets none =
    rows_met (cond c.equal 0 1 + s) (suc t) i bound cs m x (omega arith) up (omega arith) meets (ap x (omega arith) ∙ none)

-- sides that are m and d times one another, column by column
scaled_sides : (columns : ℕ) (es : List Entry) (m d : ℤ) (a b : ℕ → ℤ) → All (λ e. e.column < columns) es →
    ((k : ℕ) → k < columns → m *ℤ a k ≡ d *ℤ b k) →
    m *ℤ left_side es a ≡ d *ℤ left_side es b
scaled_sides columns [] m d a b below h = *ℤ-zero m ∙ sym (*ℤ-zero d)
scaled_sides columns (e ∷ es) m d a b below h =
    let rest = scaled_sides columns es m d a b (All-tail (λ e. e.column < columns) e es below) h in
    let here = crossed e.value m (a e.column) ∙ ap (λ (z : ℤ). e.value *ℤ z) (h e.column (All-head (λ e. e.column < columns) e es below)) ∙ sym (crossed e.value d (b e.column)) in
    let left = distrib m (e.value *ℤ a e.column) (left_side es a) in
    let right = distrib d (e.value *ℤ b e.column) (left_side es b) in
    omega (arith, ints)

-- what is met over m is met over d
met_over : (columns : ℕ) (c : Con) (m d : ℤ) (a b : ℕ → ℤ) → All (λ e. e.column < columns) c.row.entries → pos 0 <ℤ m →
    pos 0 <ℤ d →
    ((k : ℕ) → k < columns → m *ℤ a k ≡ d *ℤ b k) → IsMet c m b → IsMet c d a
met_over columns c m d a b below up_m up_d h met =
    let sides = scaled_sides columns c.row.entries m d a b below h in
    let swapped = crossed d m c.row.constant in
    record {
      at_least = factor_order m (d *ℤ c.row.constant) (left_side c.row.entries a) up_m
          (let at_least = factor_times d (m *ℤ c.row.constant) (left_side c.row.entries b) up_d met.at_least in omega (arith, ints));
      equal = λ yes. one_factor m (left_side c.row.entries a) (d *ℤ c.row.constant) (nonzero m up_m)
          (sides ∙ ap (λ (z : ℤ). d *ℤ z) (met.equal yes) ∙ sym swapped);
    }
  where
    factor_times : (d a b : ℤ) → pos 0 <ℤ d → a ≤ℤ b → (d *ℤ a) ≤ℤ (d *ℤ b)
    factor_times d a b up le =
        let rest = times_up d (b -ℤ a) (omega (arith, ints)) (omega (arith, ints)) in
        let parted = distrib d b (neg_ℤ a) in
        let turned = times_negated d a in
        omega (arith, ints)

-- a number is found among the first n values of f, or is none of them
pub found : (f : ℕ → ℕ) (n k : ℕ) → ((i : ℕ) × (i < n) × (f i ≡ k)) ⊎ ((i : ℕ) → i < n → f i ≢ k)
found f zero k = inr (λ i lt e. absurd (omega arith))
found f (suc n) k =
    elim (cases_eq (f n) k) [
      | inl is ↦ inl (n, omega arith, is)
      | inr other ↦ elim (found f n k) [
        | inl before ↦ inl (before.0, omega (arith, before.1), before.2)
        | inr none ↦ inr (λ i lt e. elim (cases_eq i n) [ inl is ↦ other (ap f (sym is) ∙ e) | inr differs ↦ none i (omega arith) e ])
      ]
    ]

con_below : (columns i : ℕ) (constraints : List Con) → AreBelow columns constraints → i < length constraints →
    All (λ e. e.column < columns) (constraint_at constraints i).row.entries
con_below columns i [] below lt = absurd (omega arith)
con_below columns zero (c ∷ cs) below lt = All-head (λ c. All (λ e. e.column < columns) c.row.entries) c cs below
con_below columns (suc i) (c ∷ cs) below lt = con_below columns i cs (All-tail (λ c. All (λ e. e.column < columns) c.row.entries) c cs below) (omega arith)

module _ (constraints : List Con) (columns : ℕ) (below : AreBelow columns constraints) (t : Tableau)
    (s : IsSound constraints columns t)
    (d : ℕ) (counts : List ℤ) (zero_left : constant_at t 0 ≡ pos 0) (are : AreCounts columns t d counts) where
  point : Located t (suc (objective constraints columns)) (pos 0)
  point = basic_point constraints columns below t s

  -- the counts, and the basic point, are one point over two denominators
  counts_are : (l : Located t (suc (objective constraints columns)) (pos 0)) (k : ℕ) → k < columns →
      l.m *ℤ number_at counts k ≡ pos d *ℤ l.x k
  counts_are l k lt =
      elim (found (basic_at t) (length t.rows) k) [
        | inl at ↦
            let i = at.0 in
            let same = at.2 in
            let first = subst (λ (n : ℕ). entry_at t i n *ℤ number_at counts n ≡ pos d *ℤ constant_at t i) same (are.basic i at.1 (omega (arith, same, lt))) in
            let second = subst (λ (n : ℕ). entry_at t i n *ℤ l.x n ≡ l.m *ℤ constant_at t i) same (l.basics refl i at.1) in
            let own = subst (λ (n : ℕ). pos 0 <ℤ entry_at t i n) same (s.basic.own i at.1) in
            one_factor (entry_at t i k) (l.m *ℤ number_at counts k) (pos d *ℤ l.x k) (nonzero (entry_at t i k) own)
            (crossed l.m (entry_at t i k)
            (number_at counts k) ∙ ap (λ (z : ℤ). l.m *ℤ z) first ∙ crossed (pos d) l.m (constant_at t i)
            ∙ ap (λ (z : ℤ). pos d *ℤ z) (sym second) ∙ sym (crossed (pos d) (entry_at t i k) (l.x k)))
        | inr none ↦
            ap (λ (z : ℤ). l.m *ℤ z) (are.others k lt none) ∙ *ℤ-zero l.m ∙ sym (ap (λ (z : ℤ). pos d *ℤ z) (l.others refl k none) ∙ *ℤ-zero (pos d))
      ]

  point_objective : (l : Located t (suc (objective constraints columns)) (pos 0)) →
      l.x (objective constraints columns) ≡ pos 0
  point_objective l =
      let count = s.count in
      let first = l.basics refl 0 (omega (arith, count)) in
      let none = zero_factor (entry_at t 0 (basic_at t 0)) (l.x (basic_at t 0)) (nonzero (entry_at t 0 (basic_at t 0)) (s.basic.own 0 (omega (arith, count))))
      (first ∙ ap (λ (z : ℤ). l.m *ℤ z) zero_left ∙ *ℤ-zero l.m) in
      ap l.x (sym s.basic_top) ∙ none

  point_meets : (l : Located t (suc (objective constraints columns)) (pos 0)) (i : ℕ) → i < length constraints →
      IsMet (constraint_at constraints i) l.m l.x
  point_meets l i lt =
      let meets = s.back l.m l.x l.meets in
      let up = λ (k : ℕ) (differ : k ≢ objective constraints columns). l.signs k (λ e. differ (e ∙ s.basic_top)) in
      let is = objective_is constraints columns s.top l.m l.x below s.is_top meets in
      let none = point_objective l in
      let gone = units_gone (artificials constraints columns) (length constraints) l.x (λ k low high. up k (λ e. absurd (omega arith))) (omega (arith, ints)) in
      let count = start_count columns (artificials constraints columns) constraints in
      rows_met columns (artificials constraints columns) i (artificials constraints columns) constraints l.m l.x lt (λ k before. up k (λ e. absurd (omega arith))) (omega arith)
      (meets.each (suc i) (omega (arith, count, lt))) (gone (artificials constraints columns + i) (omega arith) (omega arith))

  counts_up : (l : Located t (suc (objective constraints columns)) (pos 0)) (k : ℕ) → pos 0 ≤ℤ number_at counts k
  counts_up l k =
      elim (cases_lt k columns) [
        | inl lt ↦
            let up = l.signs k (λ e. absurd (let top = s.basic_top in omega (arith, e, top))) in
            factor_up l.m (number_at counts k) l.up (subst (λ (z : ℤ). pos 0 ≤ℤ z) (sym (counts_are l k lt)) (times_up (pos d) (l.x k) (omega (arith, ints)) up))
        | inr past ↦
            let count = are.count in
            let none : number_at counts k ≡ pos 0 = get_or_past counts k (pos 0) (omega (arith, count, past)) in
            omega (arith, ints)
      ]

  pub counts_meet : MeetsAll constraints columns (pos d) counts
  counts_meet =
      let some = are.positive in
      record {
        positive = omega (arith, ints);
        count = are.count;
        signs = counts_up point;
        met = λ i lt. met_over columns (constraint_at constraints i) point.m (pos d) (number_at counts) point.x (con_below columns i constraints below lt) point.up (omega (arith, ints))
            (counts_are point) (point_meets point i lt);
      }
