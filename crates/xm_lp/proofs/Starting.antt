-- The rows of the first tableau, column by column.
use Rattle.std.proofs.Common.{◌≡◌, ◌≢◌, ℕ, zero, suc, ◌+◌, ◌<◌, ◌≤◌, Bool, true, false, cond, nat_eq, inl, inr, List}
use Rattle.std.proofs.Common.{[], ◌∷◌, ◌++◌, map, length, refl, sym, ◌∙◌, ap, arith, pos, neg_ℤ, ℤ, ◌+ℤ◌, All}
use Rattle.std.specs.Int.{is_negative}
use Rattle.std.proofs.lemmas.Bool.{cases_eq}
use Rattle.std.proofs.lemmas.Int.{ints}
use Rattle.std.proofs.lemmas.List.Elements.{All-head, All-tail, All-weaker}
use Rattle.xm_rows.specs.declared.row.Entry.{Entry}
use Rattle.xm_rows.specs.Row.{SparseRow, coefficient}
use Rattle.xm_rows.specs.Lemmas.Entries.{own_column, other_column, coefficient-append, coefficient_absent}
use Rattle.xm_lp.specs.declared.decision.Con.{Con}
use Rattle.xm_lp.specs.Start.{AreBelow, row_at, slack_count, artificials, objective, negated, turned, signed}
use Rattle.xm_lp.specs.Start.{slack_entries, start_row, start_rows, in_column, constant_of, IsTop}
use Rattle.xm_lp.proofs.Combined.{combined, combined_one, IsSum}

choice_negated : (b : Bool) (v : ℤ) → cond b (neg_ℤ v) (pos 0) ≡ neg_ℤ (cond b v (pos 0))
choice_negated true v = refl
choice_negated false v = refl

coefficient_negated : (es : List Entry) (k : ℕ) → coefficient (map negated es) k ≡ neg_ℤ (coefficient es k)
coefficient_negated [] k = refl
coefficient_negated (e ∷ es) k =
    let here = choice_negated (nat_eq e.column k) e.value in
    let rest = coefficient_negated es k in
    omega (arith, ints)

coefficient_turned : (b : Bool) (es : List Entry) (k : ℕ) → coefficient (turned b es) k ≡ signed b (coefficient es k)
coefficient_turned true es k = coefficient_negated es k
coefficient_turned false es k = refl

-- a start row's entry in a column
pub start_coefficient : (s t k : ℕ) (c : Con) → coefficient (start_row s t c).entries k ≡
    signed (is_negative c.row.constant) (coefficient c.row.entries k +ℤ coefficient (slack_entries c.equal s) k) +ℤ cond (nat_eq t k) (pos 1) (pos 0)
start_coefficient s t k c =
    let b = is_negative c.row.constant in
    let es = c.row.entries ++ slack_entries c.equal s in
    let apart = coefficient-append (turned b es) (record { column = t; value = pos 1 } ∷ []) k in
    let first = coefficient_turned b es k ∙ ap (signed b) (coefficient-append c.row.entries (slack_entries c.equal s) k) in
    omega (arith, ints)

pub given_above : (columns k : ℕ) (es : List Entry) → All (λ e. e.column < columns) es → columns ≤ k →
    coefficient es k ≡ pos 0
given_above columns k es below h = coefficient_absent es k (All-weaker (λ e. e.column < columns) (λ e. e.column ≢ k) (λ e lt is. absurd (omega arith)) es below)

pub slack_elsewhere : (equal : Bool) (s k : ℕ) → s ≢ k → coefficient (slack_entries equal s) k ≡ pos 0
slack_elsewhere true s k other = refl
slack_elsewhere false s k other = let here = other_column s k (neg_ℤ (pos 1)) other in omega (arith, ints)

pub slack_above : (equal : Bool) (s k : ℕ) → cond equal 0 1 + s ≤ k → coefficient (slack_entries equal s) k ≡ pos 0
slack_above true s k h = refl
slack_above false s k h = slack_elsewhere false s k (λ e. absurd (omega arith))

pub slack_here : (s : ℕ) → coefficient (slack_entries false s) s ≡ neg_ℤ (pos 1)
slack_here s = let here = own_column s s (neg_ℤ (pos 1)) refl in omega (arith, ints)

signed_none : (b : Bool) (z : ℤ) → z ≡ pos 0 → signed b z ≡ pos 0
signed_none true z e = ap neg_ℤ e
signed_none false z e = e

-- beyond the slacks a start row has 1 in its artificial column and nothing else
pub artificial_entries : (columns s t k i : ℕ) (constraints : List Con) → AreBelow columns constraints → columns ≤ s →
    s + slack_count constraints ≤ k → i < length constraints →
    coefficient (row_at (start_rows s t constraints) i).entries k ≡ cond (nat_eq (t + i) k) (pos 1) (pos 0)
artificial_entries columns s t k i [] below over beyond lt = absurd (omega arith)
artificial_entries columns s t k zero (c ∷ cs) below over beyond lt =
    let given = given_above columns k c.row.entries (All-head (λ c. All (λ e. e.column < columns) c.row.entries) c cs below) (omega arith) in
    let slack = slack_above c.equal s k (omega arith) in
    let none = signed_none (is_negative c.row.constant) (coefficient c.row.entries k +ℤ coefficient (slack_entries c.equal s) k) (omega (arith, ints)) in
    let whole = start_coefficient s t k c in
    let moved : cond (nat_eq t k) (pos 1) (pos 0) ≡ cond (nat_eq (t + 0) k) (pos 1) (pos 0) = ap (λ (n : ℕ). cond (nat_eq n k) (pos 1) (pos 0)) (omega arith) in
    omega (arith, ints)
artificial_entries columns s t k (suc i) (c ∷ cs) below over beyond lt =
    artificial_entries columns (cond c.equal 0 1 + s) (suc t) k i cs (All-tail (λ c. All (λ e. e.column < columns) c.row.entries) c cs below) (omega arith) (omega arith) (omega arith)
    ∙ ap (λ (n : ℕ). cond (nat_eq n k) (pos 1) (pos 0)) (omega arith)

pub start_count : (s t : ℕ) (constraints : List Con) → length (start_rows s t constraints) ≡ length constraints
start_count s t [] = refl
start_count s t (c ∷ cs) = let rest = start_count (cond c.equal 0 1 + s) (suc t) cs in omega (arith, rest)

-- the own column of each row of the first tableau
abbrev pub own_column_of : List Con → ℕ → ℕ → ℕ
own_column_of constraints columns zero = objective constraints columns
own_column_of constraints columns (suc i) = artificials constraints columns + i

-- the rows of the first tableau
abbrev pub first_rows : List Con → ℕ → SparseRow → List SparseRow
first_rows constraints columns top = top ∷ start_rows columns (artificials constraints columns) constraints

module _ (constraints : List Con) (columns : ℕ) (top : SparseRow) (below : AreBelow columns constraints)
    (is_top : IsTop (start_rows columns (artificials constraints columns) constraints) (artificials constraints columns)
    (objective constraints columns) top) where
  counted : length (start_rows columns (artificials constraints columns) constraints) ≡ length constraints
  counted = start_count columns (artificials constraints columns) constraints

  -- the entry of row i in the own column of row h
  pub own_entries : (i h : ℕ) → i < suc (length constraints) → h < suc (length constraints) →
      coefficient (row_at (first_rows constraints columns top) i).entries (own_column_of constraints columns h) ≡ cond (nat_eq i h) (pos 1) (pos 0)
  own_entries zero zero in_i in_h = is_top.own
  own_entries zero (suc h) in_i in_h =
      is_top.others (artificials constraints columns + h) (omega arith) (λ e. absurd (omega arith))
      ∙ sym (other_column 0 (suc h) (pos 1) (λ e. absurd (omega arith)))
  own_entries (suc i) zero in_i in_h =
      artificial_entries columns columns (artificials constraints columns) (objective constraints columns) i constraints below (omega arith) (omega arith) (omega arith)
      ∙ other_column (artificials constraints columns + i) (objective constraints columns) (pos 1) (λ e. absurd (omega arith))
      ∙ sym (other_column (suc i) 0 (pos 1) (λ e. absurd (omega arith)))
  own_entries (suc i) (suc h) in_i in_h =
      artificial_entries columns columns (artificials constraints columns) (artificials constraints columns + h) i constraints below (omega arith) (omega arith) (omega arith)
      ∙ same_place (artificials constraints columns) i h
    where
      same_place : (t i h : ℕ) → cond (nat_eq (t + i) (t + h)) (pos 1) (pos 0) ≡ cond (nat_eq (suc i) (suc h)) (pos 1)
          (pos 0)
      same_place t i h =
          elim (cases_eq i h) [
            | inl is ↦ own_column (t + i) (t + h) (pos 1) (omega arith) ∙ sym (own_column (suc i) (suc h) (pos 1) (omega arith))
            | inr other ↦ other_column (t + i) (t + h) (pos 1) (λ e. other (omega arith)) ∙ sym (other_column (suc i) (suc h) (pos 1) (λ e. other (omega arith)))
          ]

  -- each row of the first tableau is the sum that is that row alone
  pub start_sum : (i : ℕ) → i < suc (length constraints) → IsSum (first_rows constraints columns top)
      (own_column_of constraints columns) (row_at (first_rows constraints columns top) i)
  start_sum i lt = record { entries = λ k. sym (alone (in_column k)); constant = sym (alone constant_of) }
    where
      alone : (f : SparseRow → ℤ) →
          combined f (λ h. coefficient (row_at (first_rows constraints columns top) i).entries (own_column_of constraints columns h)) (first_rows constraints columns top)
          ≡ f (row_at (first_rows constraints columns top) i)
      alone f =
          let count = counted in
          combined_one f (λ h. coefficient (row_at (first_rows constraints columns top) i).entries (own_column_of constraints columns h)) (first_rows constraints columns top) i (omega (arith, count))
          (own_entries i i lt lt ∙ own_column i i (pos 1) refl)
          (λ h below other. own_entries i h lt (omega (arith, count)) ∙ other_column i h (pos 1) (λ e. other (sym e)))
