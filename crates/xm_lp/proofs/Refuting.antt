-- What row 0 of an end says of the constraints: the multipliers and the lows add up.
use Rattle.std.proofs.Common.{◌≡◌, ℕ, zero, suc, ◌+◌, ◌<◌, ◌≤◌, Bool, true, false, cond, List, [], ◌∷◌, length, take}
use Rattle.std.proofs.Common.{refl, sym, ◌∙◌, ap, ap₂, subst, arith, pos, negsuc, neg_ℤ, ℤ, ◌+ℤ◌, ◌-ℤ◌, ◌*ℤ◌, ◌<ℤ◌}
use Rattle.std.proofs.Common.{◌≤ℤ◌, unsigned_abs, All}
use Rattle.std.specs.Int.{is_negative}
use Rattle.std.proofs.lemmas.Int.{ints}
use Rattle.std.proofs.lemmas.List.Elements.{All-head, All-tail, All-cons, All-nil}
use Rattle.std.proofs.Math.IntN.{*ℤ-zero}
use Rattle.xm_rows.specs.Row.{SparseRow, coefficient}
use Rattle.xm_rows.specs.Lemmas.Entries.{other_column}
use Rattle.xm_rows.specs.Lemmas.Integers.{negated, times_negated, times_one}
use Rattle.xm_lp.specs.declared.decision.Con.{Con}
use Rattle.xm_lp.specs.Start.{Tableau, AreBelow, row_at, slack_count, artificials, objective, signed, slack_entries}
use Rattle.xm_lp.specs.Start.{start_row, start_rows, total, in_column, constant_of, IsTop}
use Rattle.xm_lp.specs.Pivot.{IsLast, constant_at}
use Rattle.xm_lp.specs.Answer.{number_at, constraint_at, weighted, AreMultipliers}
use Rattle.xm_lp.specs.Right.{Refutes}
use Rattle.xm_lp.proofs.Combined.{combined, combined_rest, IsSum}
use Rattle.xm_lp.proofs.Starting.{start_coefficient, given_above, slack_elsewhere, slack_above, slack_here}
use Rattle.xm_lp.proofs.Starting.{own_column_of, first_rows}

pub is_negative_up : (n : ℕ) → is_negative (pos n) ≡ false
is_negative_up n = grind arith

-- the sum of the multipliers, each times what f reads from its constraint, the multipliers as a function
abbrev pub spread : (SparseRow → ℤ) → (ℕ → ℤ) → List Con → ℤ
spread f m [] = pos 0
spread f m (c ∷ cs) = (m 0 *ℤ f c.row) +ℤ spread f (λ i. m (suc i)) cs

pub weighted_is : (f : SparseRow → ℤ) (ms : List ℤ) (m : ℕ → ℤ) (constraints : List Con) → length ms ≡
    length constraints →
    ((i : ℕ) → i < length constraints → number_at ms i ≡ m i) → weighted f ms constraints ≡ spread f m constraints
weighted_is f [] m [] e h = refl
weighted_is f [] m (c ∷ cs) e h = absurd (omega (arith, e))
weighted_is f (x ∷ ms) m [] e h = absurd (omega (arith, e))
weighted_is f (x ∷ ms) m (c ∷ cs) e h =
    ap₂ ◌+ℤ◌ (ap (λ (n : ℤ). n *ℤ f c.row) (h 0 (omega arith)))
    (weighted_is f ms (λ i. m (suc i)) cs (omega (arith, e)) (λ i lt. h (suc i) (omega arith)))

-- a factor of each row, signed as the row was turned
abbrev pub signed_by : List Con → (ℕ → ℤ) → ℕ → ℤ
signed_by constraints y i = signed (is_negative (constraint_at constraints i).row.constant) (y i)

signed_constant : (b y : ℤ) → y *ℤ pos (unsigned_abs b) ≡ signed (is_negative b) y *ℤ b
signed_constant (pos n) y = ap (λ (b : Bool). signed b y *ℤ pos n) (sym (is_negative_up n))
signed_constant (negsuc n) y =
    let first = negated y (negsuc n) in
    let second = times_negated y (negsuc n) in
    omega (arith, ints)

signed_entry : (turn : Bool) (y a : ℤ) → y *ℤ signed turn a ≡ signed turn y *ℤ a
signed_entry true y a = times_negated y a ∙ sym (negated y a)
signed_entry false y a = refl

pub constants_spread : (s t : ℕ) (y : ℕ → ℤ) (constraints : List Con) →
    combined constant_of y (start_rows s t constraints) ≡ spread constant_of (signed_by constraints y) constraints
constants_spread s t y [] = refl
constants_spread s t y (c ∷ cs) =
    ap₂ ◌+ℤ◌ (signed_constant c.row.constant (y 0)) (constants_spread (cond c.equal 0 1 + s) (suc t) (λ i. y (suc i)) cs)

pub entries_spread : (columns s t k : ℕ) (y : ℕ → ℤ) (constraints : List Con) → k < columns → columns ≤ s →
    columns ≤ t →
    combined (in_column k) y (start_rows s t constraints) ≡ spread (in_column k) (signed_by constraints y) constraints
entries_spread columns s t k y [] low over_s over_t = refl
entries_spread columns s t k y (c ∷ cs) low over_s over_t =
    let turn = is_negative c.row.constant in
    let slack = slack_elsewhere c.equal s k (λ e. absurd (omega arith)) in
    let own = other_column t k (pos 1) (λ e. absurd (omega arith)) in
    let inner : coefficient c.row.entries k +ℤ coefficient (slack_entries c.equal s) k ≡ coefficient c.row.entries k = omega (arith, ints) in
    let given = ap (signed turn) inner in
    let whole = start_coefficient s t k c in
    let is : coefficient (start_row s t c).entries k ≡ signed turn (coefficient c.row.entries k) = omega (arith, ints) in
    ap₂ ◌+ℤ◌ (ap (λ (n : ℤ). y 0 *ℤ n) is ∙ signed_entry turn (y 0) (coefficient c.row.entries k))
    (entries_spread columns (cond c.equal 0 1 + s) (suc t) k (λ i. y (suc i)) cs low (omega arith) (omega arith))

signed_none : (b : Bool) (z : ℤ) → z ≡ pos 0 → signed b z ≡ pos 0
signed_none true z e = ap neg_ℤ e
signed_none false z e = e

-- a slack's column is empty in later rows
slack_after : (columns s t k : ℕ) (y : ℕ → ℤ) (constraints : List Con) → AreBelow columns constraints → columns ≤ k →
    k < s → k < t →
    combined (in_column k) y (start_rows s t constraints) ≡ pos 0
slack_after columns s t k y [] below over before_s before_t = refl
slack_after columns s t k y (c ∷ cs) below over before_s before_t =
    let given = given_above columns k c.row.entries (All-head (λ c. All (λ e. e.column < columns) c.row.entries) c cs below) over in
    let slack = slack_elsewhere c.equal s k (λ e. absurd (omega arith)) in
    let none = signed_none (is_negative c.row.constant) (coefficient c.row.entries k +ℤ coefficient (slack_entries c.equal s) k) (omega (arith, ints)) in
    let own = other_column t k (pos 1) (λ e. absurd (omega arith)) in
    let whole = start_coefficient s t k c in
    let is : coefficient (start_row s t c).entries k ≡ pos 0 = omega (arith, ints) in
    let rest = slack_after columns (cond c.equal 0 1 + s) (suc t) k (λ i. y (suc i)) cs (All-tail (λ c. All (λ e. e.column < columns) c.row.entries) c cs below) over (omega arith) (omega arith) in
    ap₂ ◌+ℤ◌ (ap (λ (n : ℤ). y 0 *ℤ n) is ∙ *ℤ-zero (y 0)) rest

counts_one : (c : Con) → c.equal ≡ false → slack_count (c ∷ []) ≡ 1
counts_one c more = ap (λ (b : Bool). cond b 0 1 + 0) more

slack_first : (columns s t : ℕ) (y : ℤ) (c : Con) (equal : Bool) → AreBelow columns (c ∷ []) → columns ≤ s → s < t →
    c.equal ≡ equal → equal ≡ false →
    y *ℤ coefficient (start_row s t c).entries s ≡ neg_ℤ (signed (is_negative c.row.constant) y)
slack_first columns s t y c equal below over before is more =
    let turn = is_negative c.row.constant in
    let given = given_above columns s c.row.entries (All-head (λ c. All (λ e. e.column < columns) c.row.entries) c [] below) over in
    let slack : coefficient (slack_entries c.equal s) s ≡ neg_ℤ (pos 1) = ap (λ (b : Bool). coefficient (slack_entries b s) s) (is ∙ more) ∙ slack_here s in
    let own = other_column t s (pos 1) (λ e. absurd (omega arith)) in
    let inner : coefficient c.row.entries s +ℤ coefficient (slack_entries c.equal s) s ≡ neg_ℤ (pos 1) = omega (arith, ints) in
    let signs = ap (signed turn) inner in
    let whole = start_coefficient s t s c in
    let here : coefficient (start_row s t c).entries s ≡ signed turn (neg_ℤ (pos 1)) = omega (arith, ints) in
    ap (λ (n : ℤ). y *ℤ n) here ∙ signed_entry turn y (neg_ℤ (pos 1)) ∙ times_negated (signed turn y) (pos 1) ∙ ap neg_ℤ (times_one (signed turn y))

alone : (c : Con) (cs : List Con) (columns : ℕ) → AreBelow columns (c ∷ cs) → AreBelow columns (c ∷ [])
alone c cs columns below = All-cons (λ c. All (λ e. e.column < columns) c.row.entries) c [] (All-head (λ c. All (λ e. e.column < columns) c.row.entries) c cs below) (All-nil (λ c. All (λ e. e.column < columns) c.row.entries))

-- a constraint with a slack stands before the end of the slacks
pub slack_within : (i : ℕ) (cs : List Con) → i < length cs → (constraint_at cs i).equal ≡ false →
    slack_count (take i cs) < slack_count cs
slack_within i [] lt more = absurd (omega arith)
slack_within zero (c ∷ cs) lt more = let one = counts_one c more in omega (arith, one)
slack_within (suc i) (c ∷ cs) lt more = let rest = slack_within i cs (omega arith) more in omega (arith, rest)

-- the slack of constraint i
pub slack_spread : (columns s t i k : ℕ) (y : ℕ → ℤ) (constraints : List Con) → AreBelow columns constraints →
    columns ≤ s → s + slack_count constraints ≤ t →
    i < length constraints → (constraint_at constraints i).equal ≡ false → k ≡ s + slack_count (take i constraints) →
    combined (in_column k) y (start_rows s t constraints) ≡ neg_ℤ (signed_by constraints y i)
slack_spread columns s t i k y [] below over_s over_t lt more place = absurd (omega arith)
slack_spread columns s t zero k y (c ∷ cs) below over_s over_t lt more place =
    let one = counts_one c more in
    let same : k ≡ s = omega (arith, place) in
    let rest = slack_after columns (cond c.equal 0 1 + s) (suc t) s (λ i. y (suc i)) cs (All-tail (λ c. All (λ e. e.column < columns) c.row.entries) c cs below) over_s (omega (arith, one)) (omega (arith, one)) in
    let here = slack_first columns s t (y 0) c false (alone c cs columns below) over_s (omega (arith, one)) more refl in
    subst (λ (n : ℕ). combined (in_column n) y (start_rows s t (c ∷ cs)) ≡ neg_ℤ (signed_by (c ∷ cs) y 0)) (sym same) (omega (arith, ints, rest, here))
slack_spread columns s t (suc i) k y (c ∷ cs) below over_s over_t lt more place =
    let turn = is_negative c.row.constant in
    let given = given_above columns k c.row.entries (All-head (λ c. All (λ e. e.column < columns) c.row.entries) c cs below) (omega (arith, place)) in
    let slack = slack_above c.equal s k (omega (arith, place)) in
    let none = signed_none turn (coefficient c.row.entries k +ℤ coefficient (slack_entries c.equal s) k) (omega (arith, ints)) in
    let short = slack_within i cs (omega arith) more in
    let own = other_column t k (pos 1) (λ e. absurd (omega (arith, place, short))) in
    let whole = start_coefficient s t k c in
    let is : coefficient (start_row s t c).entries k ≡ pos 0 = omega (arith, ints) in
    let here = ap (λ (n : ℤ). y 0 *ℤ n) is ∙ *ℤ-zero (y 0) in
    let rest = slack_spread columns (cond c.equal 0 1 + s) (suc t) i k (λ i. y (suc i)) cs
    (All-tail (λ c. All (λ e. e.column < columns) c.row.entries) c cs below) (omega arith) (omega arith) (omega arith) more (omega (arith, place)) in
    omega (arith, ints)

module _ (constraints : List Con) (columns : ℕ) (top : SparseRow) (below : AreBelow columns constraints)
    (is_top : IsTop (start_rows columns (artificials constraints columns) constraints) (artificials constraints columns)
    (objective constraints columns) top)
    (r : SparseRow) (sum : IsSum (first_rows constraints columns top) (own_column_of constraints columns) r) where
  -- row 0's entry at the objective less that at an artificial
  abbrev rest_of : ℕ → ℤ
  rest_of i = coefficient r.entries (objective constraints columns) -ℤ coefficient r.entries (artificials constraints columns + i)

  -- what f reads from a row that is such a sum, where the top is minus the sum of the rows
  read : (f : SparseRow → ℤ) (z : ℤ) →
      z ≡ combined f (λ i. coefficient r.entries (own_column_of constraints columns i)) (first_rows constraints columns top) →
      f top ≡ neg_ℤ (total f (start_rows columns (artificials constraints columns) constraints)) →
      combined f rest_of (start_rows columns (artificials constraints columns) constraints) ≡ neg_ℤ z
  read f z is minus =
      let c = coefficient r.entries (objective constraints columns) in
      let rest = combined_rest f c (λ i. coefficient r.entries (artificials constraints columns + i)) (start_rows columns (artificials constraints columns) constraints) in
      let first = ap (λ (n : ℤ). c *ℤ n) minus ∙ times_negated c (total f (start_rows columns (artificials constraints columns) constraints)) in
      omega (arith, ints)

  pub given_gone : (k : ℕ) → k < columns → spread (in_column k) (signed_by constraints rest_of) constraints ≡
      neg_ℤ (coefficient r.entries k)
  given_gone k lt =
      sym (entries_spread columns columns (artificials constraints columns) k rest_of constraints lt (omega arith) (omega arith))
      ∙ read (in_column k) (coefficient r.entries k) (sum.entries k) (is_top.sums k (omega arith))

  pub constant_left : spread constant_of (signed_by constraints rest_of) constraints ≡ neg_ℤ r.constant
  constant_left =
      sym (constants_spread columns (artificials constraints columns) rest_of constraints)
      ∙ read constant_of r.constant sum.constant is_top.constant

  -- the multiplier of a constraint with a slack is row 0's entry there
  pub slack_multiplier : (i : ℕ) → i < length constraints → (constraint_at constraints i).equal ≡ false →
      signed_by constraints rest_of i ≡ coefficient r.entries (columns + slack_count (take i constraints))
  slack_multiplier i lt more =
      let k = columns + slack_count (take i constraints) in
      let short = slack_within i constraints lt more in
      let at = slack_spread columns columns (artificials constraints columns) i k rest_of constraints below (omega arith) (omega arith) lt more refl in
      let is = read (in_column k) (coefficient r.entries k) (sum.entries k) (is_top.sums k (omega (arith, short))) in
      omega (arith, ints)

-- the answer of an end whose row 0 is a sum of the first rows, and has a negative constant, refutes the constraints
pub refutes : (constraints : List Con) (columns : ℕ) (top : SparseRow) (t : Tableau) (multipliers lows : List ℤ) →
    AreBelow columns constraints →
    IsTop (start_rows columns (artificials constraints columns) constraints) (artificials constraints columns) (objective constraints columns) top →
    IsSum (first_rows constraints columns top) (own_column_of constraints columns) (row_at t.rows 0) →
    IsLast t (artificials constraints columns) → constant_at t 0 <ℤ pos 0 →
    AreMultipliers constraints columns t multipliers lows →
    Refutes constraints columns multipliers lows
refutes constraints columns top t multipliers lows below is_top sum last negative are =
    let r = row_at t.rows 0 in
    let m = signed_by constraints (λ i. coefficient r.entries (objective constraints columns) -ℤ coefficient r.entries (artificials constraints columns + i)) in
    record {
      count = are.count;
      low_count = are.low_count;
      signs = λ i lt more.
          let short = slack_within i constraints lt more in
          subst (λ (z : ℤ). pos 0 ≤ℤ z) (sym (are.each i lt ∙ slack_multiplier constraints columns top below is_top r sum i lt more))
          (last (columns + slack_count (take i constraints)) (omega (arith, short)));
      low_signs = λ k lt. subst (λ (z : ℤ). pos 0 ≤ℤ z) (sym (are.each_low k lt)) (last k (omega arith));
      gone = λ k lt.
          let spreads = weighted_is (in_column k) multipliers m constraints are.count are.each in
          let gone = given_gone constraints columns top below is_top r sum k lt in
          let low = are.each_low k lt in
          omega (arith, ints);
      left =
          let spreads = weighted_is constant_of multipliers m constraints are.count are.each in
          let left = constant_left constraints columns top below is_top r sum in
          omega (arith, ints);
    }
