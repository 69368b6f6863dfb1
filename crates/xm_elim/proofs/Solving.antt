-- Back from the rows after a column to the rows before it: a pivot of a column of moves is solved for that column.
use Rattle.std.proofs.Common.{◌≡◌, ◌≢◌, ℕ, zero, suc, ◌*◌, ◌<◌, ◌≤◌, inl, inr, List, [], ◌∷◌, length, slice_get, Some, cond, nat_eq, nat_lt, sym, ◌∙◌, ap, ap₂, subst, arith, pos, negsuc, neg_ℤ, eq-eqb, le-ltb, ℤ, ◌+ℤ◌, ◌-ℤ◌, ◌*ℤ◌, unsigned_abs}
use Rattle.std.proofs.lemmas.Bool.{cases_eq, cond-true, cond-false, ne_eqb, cases_lt}
use Rattle.std.proofs.lemmas.Int.{ints}
use Rattle.std.proofs.Math.Nat.{mul-pos}
use Rattle.std.proofs.Math.IntN.{*ℤ-zero, zero-*ℤ}
use Rattle.xm_rows.specs.Lemmas.Entries.{own_column, other_column}
use Rattle.xm_rows.specs.Lemmas.Integers.{assoc, crossed, distrib, distrib_right, times_difference, times_negated, abs_positive, one_times, times_one}
use Rattle.xm_rows.specs.Points.{FirstFactorIsPositive, GivesBackPoints, Meets}
use Rattle.xm_rows.specs.Row.{SparseRow, coefficient, left_side}
use Rattle.xm_rows.specs.declared.row.Entry.{Entry}
use Rattle.xm_elim.specs.Elimination.{IsPivot, Reaches, Replaced, Step, after, begin, cancelled, more, passed, pivoted, stays}
use Rattle.xm_elim.specs.declared.work.Status.TheVariants.{Gone, Pivot}
use Rattle.xm_elim.specs.declared.work.Working.{Working}
use Rattle.xm_elim.proofs.Passing.{column_gone, same_item, same_place}

-- the point taken a times, with y at the column
abbrev pub with_at : ℕ → ℤ → ℤ → (ℕ → ℤ) → ℕ → ℤ
with_at c y a x k = cond (nat_eq c k) y (a *ℤ x k)

at_column : (value y a z : ℤ) → value *ℤ y ≡ (a *ℤ (value *ℤ z)) +ℤ (value *ℤ (y -ℤ (a *ℤ z)))
at_column value y a z = let parted = times_difference value y (a *ℤ z) in let turned = crossed a value z in omega (arith, ints)

elsewhere : (value d a z : ℤ) → value *ℤ (a *ℤ z) ≡ (a *ℤ (value *ℤ z)) +ℤ (pos 0 *ℤ d)
elsewhere value d a z = let turned = crossed a value z in let none = zero-*ℤ d in omega (arith, ints)

term_at : (c : ℕ) (y a : ℤ) (x : ℕ → ℤ) (k : ℕ) (value : ℤ) →
    value *ℤ with_at c y a x k ≡ (a *ℤ (value *ℤ x k)) +ℤ (cond (nat_eq k c) value (pos 0) *ℤ (y -ℤ (a *ℤ x c)))
term_at c y a x k value =
    let d = y -ℤ (a *ℤ x c) in
    elim (cases_eq c k) [
      | inl is ↦
          ap (λ (z : ℤ). value *ℤ z) (cond-true (nat_eq c k) y (a *ℤ x k) (eq-eqb c k is))
          ∙ at_column value y a (x c)
          ∙ ap₂ ◌+ℤ◌ (ap (λ (j : ℕ). a *ℤ (value *ℤ x j)) is) (ap (λ (z : ℤ). z *ℤ d) (sym (own_column k c value (sym is))))
      | inr other ↦
          ap (λ (z : ℤ). value *ℤ z) (cond-false (nat_eq c k) y (a *ℤ x k) (ne_eqb c k other))
          ∙ elsewhere value d a (x k)
          ∙ ap (λ (z : ℤ). (a *ℤ (value *ℤ x k)) +ℤ (z *ℤ d)) (sym (other_column k c value (λ e. other (sym e))))
    ]

pub left_side_at : (es : List Entry) (c : ℕ) (y a : ℤ) (x : ℕ → ℤ) →
    left_side es (with_at c y a x) ≡ (a *ℤ left_side es x) +ℤ (coefficient es c *ℤ (y -ℤ (a *ℤ x c)))
left_side_at [] c y a x = let one = *ℤ-zero a in let two = zero-*ℤ (y -ℤ (a *ℤ x c)) in omega (arith, ints)
left_side_at (e ∷ es) c y a x =
    let rest = left_side_at es c y a x in
    let first = term_at c y a x e.column e.value in
    let one = distrib a (e.value *ℤ x e.column) (left_side es x) in
    let two = distrib_right (cond (nat_eq e.column c) e.value (pos 0)) (coefficient es c) (y -ℤ (a *ℤ x c)) in
    omega (arith, ints)

-- a number times its sign is its absolute value
sign_of : (b : ℤ) → (sign : ℤ) × (b *ℤ sign ≡ pos (unsigned_abs b))
sign_of (pos n) = (pos 1, times_one (pos n))
sign_of (negsuc n) = (neg_ℤ (pos 1), times_negated (negsuc n) (pos 1) ∙ ap neg_ℤ (times_one (negsuc n)))

taken_apart : (a b sign l m constant : ℤ) → b *ℤ sign ≡ a → (a *ℤ l) +ℤ (b *ℤ (sign *ℤ ((m *ℤ constant) -ℤ l))) ≡ (a *ℤ m) *ℤ constant
taken_apart a b sign l m constant is =
    let all = assoc b sign ((m *ℤ constant) -ℤ l) ∙ ap (λ (z : ℤ). z *ℤ ((m *ℤ constant) -ℤ l)) is ∙ times_difference a (m *ℤ constant) l in
    let last = assoc a m constant in
    omega (arith, ints)

-- a row with an entry in the column is solved for it
pub solved : (w : SparseRow) (c : ℕ) (m : ℤ) (x : ℕ → ℤ) → coefficient w.entries c ≢ pos 0 →
    (y : ℤ) × Meets w (pos (unsigned_abs (coefficient w.entries c)) *ℤ m) (with_at c y (pos (unsigned_abs (coefficient w.entries c))) x)
solved w c m x nonzero =
    let b = coefficient w.entries c in
    let a = pos (unsigned_abs b) in
    let sign = sign_of b in
    let l = left_side w.entries x in
    let y = (a *ℤ x c) +ℤ (sign.0 *ℤ ((m *ℤ w.constant) -ℤ l)) in
    let rest : y -ℤ (a *ℤ x c) ≡ sign.0 *ℤ ((m *ℤ w.constant) -ℤ l) = omega (arith, ints) in
    (y, left_side_at w.entries c y a x ∙ ap (λ (z : ℤ). (a *ℤ l) +ℤ (b *ℤ z)) rest ∙ taken_apart a b sign.0 l m w.constant sign.1)

-- a row without one holds as before
pub unmoved : (w : SparseRow) (c : ℕ) (y a m : ℤ) (x : ℕ → ℤ) → coefficient w.entries c ≡ pos 0 → Meets w m x → Meets w (a *ℤ m) (with_at c y a x)
unmoved w c y a m x none on =
    let at = left_side_at w.entries c y a x in
    let gone = ap (λ (z : ℤ). z *ℤ (y -ℤ (a *ℤ x c))) none ∙ zero-*ℤ (y -ℤ (a *ℤ x c)) in
    let same = ap (λ (z : ℤ). a *ℤ z) on in
    let last = assoc a m w.constant in
    omega (arith, ints)

-- a point of the rows that work
abbrev pub Solves : List Working → ℤ → (ℕ → ℤ) → Type 0
Solves rows m x = (j : ℕ) (w : Working) → slice_get rows j ≡ Some w → w.status ≢ Gone → Meets w.row m x

-- the point of some rows, made a point of others: taken a number of times, and changed in columns of moves
pub record Back (moves : ℕ) (rows : List Working) (m : ℤ) (x : ℕ → ℤ) : Type 0 where
  pub factor : ℕ
  pub positive : 0 < factor
  pub y : ℕ → ℤ
  pub same : (k : ℕ) → moves ≤ k → y k ≡ pos factor *ℤ x k
  pub solves : Solves rows (pos factor *ℤ m) y

module _ (gives : GivesBackPoints) (first : FirstFactorIsPositive) where
  -- back over one row
  row_back : (column : ℕ) (pivot : SparseRow) (v n : Working) (m : ℤ) (x : ℕ → ℤ) → coefficient pivot.entries column ≢ pos 0 → Replaced column pivot v n →
      Meets pivot m x → (n.status ≢ Gone → Meets n.row m x) → v.status ≢ Gone → Meets v.row m x
  row_back column pivot v n m x nonzero (stays out is) on_pivot on_n works =
      let same : n.status ≡ v.status = ap (λ (w : Working). w.status) is in
      subst (λ (w : Working). Meets w.row m x) is (on_n (λ e. works (sym same ∙ e)))
  row_back column pivot v n m x nonzero (cancelled taken status row c) on_pivot on_n works =
      let u = first (coefficient v.row.entries column) (coefficient pivot.entries column) c.u c.v nonzero c.factors in
      gives v.row pivot n.row c.u c.v m x (λ e. absurd (omega (arith, ints))) c.combination (on_n (λ e. works (sym status ∙ e))) on_pivot

  -- over all rows
  rows_back : (column i : ℕ) (rows next : List Working) (pivot : Working) (m : ℤ) (x : ℕ → ℤ) → IsPivot rows column i pivot → length next ≡ length rows →
      ((j : ℕ) (v n : Working) → j ≢ i → slice_get rows j ≡ Some v → slice_get next j ≡ Some n → Replaced column pivot.row v n) →
      Meets pivot.row m x →
      ((j : ℕ) (n : Working) → j ≢ i → slice_get next j ≡ Some n → n.status ≢ Gone → Meets n.row m x) → Solves rows m x
  rows_back column i rows next pivot m x is_pivot whole others on_pivot on_next j v at works =
      elim (cases_eq j i) [
        | inl same ↦
            let here : slice_get rows i ≡ Some v = sym (ap (slice_get rows) same) ∙ at in
            subst (λ (w : Working). Meets w.row m x) (same_item rows i pivot v is_pivot.at here) on_pivot
        | inr other ↦
            let n = same_place rows next j v (sym whole) at in
            row_back column pivot.row v n.0 m x is_pivot.candidate.entry (others j v n.0 other at n.1) on_pivot (on_next j n.0 other n.1) works
      ]

  once_more : (moves : ℕ) (rows : List Working) (m : ℤ) (x : ℕ → ℤ) → Solves rows m x → Back moves rows m x
  once_more moves rows m x solves =
      record {
        factor = 1;
        positive = omega arith;
        y = x;
        same = λ k h. sym (one_times (x k));
        solves = subst (λ (z : ℤ). Solves rows z x) (sym (one_times m)) solves;
      }

  step_back : (moves column : ℕ) (rows next : List Working) (m : ℤ) (x : ℕ → ℤ) → Step moves column rows next → Solves next m x → Back moves rows m x
  step_back moves column rows next m x (passed out is) solves =
      once_more moves rows m x (subst (λ (l : List Working). Solves l m x) is solves)
  step_back moves column rows next m x (pivoted i pivot is_pivot whole at_i others) solves =
      elim (cases_lt column moves) [
        | inl below ↦
            let b = coefficient pivot.row.entries column in
            let a = pos (unsigned_abs b) in
            let y = solved pivot.row column m x is_pivot.candidate.entry in
            record {
              factor = unsigned_abs b;
              positive = abs_positive b is_pivot.candidate.entry;
              y = with_at column y.0 a x;
              same = λ k h. cond-false (nat_eq column k) y.0 (a *ℤ x k) (ne_eqb column k (λ e. absurd (omega arith)));
              solves = rows_back column i rows next pivot (a *ℤ m) (with_at column y.0 a x) is_pivot whole others y.1
                  (λ j n other at works.
                  let v = same_place next rows j n whole at in
                  unmoved n.row column y.0 a m x (column_gone column pivot.row v.0 n is_pivot.candidate.entry (others j v.0 n other v.1 at) works) (solves j n at works));
            }
        | inr above ↦
            let status : after moves column ≡ Pivot column = cond-false (nat_lt column moves) Gone (Pivot column) (le-ltb column moves above) in
            once_more moves rows m x
            (rows_back column i rows next pivot m x is_pivot whole others
            (solves i (record { row = pivot.row; status = after moves column }) at_i (λ e. absurd (pivot_works column (sym status ∙ e))))
            (λ j n other at works. solves j n at works))
      ]
    where
      pivot_works : (c : ℕ) → Pivot c ≡ Gone → ⊥
      pivot_works c e = cc

  times_back : (a b : ℕ) (z : ℤ) → pos a *ℤ (pos b *ℤ z) ≡ pos (a * b) *ℤ z
  times_back a b z = assoc (pos a) (pos b) z

  -- back to the first rows
  pub reaches_back : (moves column : ℕ) (start rows : List Working) (m : ℤ) (x : ℕ → ℤ) → Reaches moves start column rows → Solves rows m x → Back moves start m x
  reaches_back moves zero start rows m x begin solves = once_more moves start m x solves
  reaches_back moves (suc column) start next m x (more {rows = rows} before step) solves =
      let here = step_back moves column rows next m x step solves in
      let rest = reaches_back moves column start rows (pos here.factor *ℤ m) here.y before here.solves in
      record {
        factor = rest.factor * here.factor;
        positive = mul-pos rest.positive here.positive;
        y = rest.y;
        same = λ k h. rest.same k h ∙ ap (λ (z : ℤ). pos rest.factor *ℤ z) (here.same k h) ∙ times_back rest.factor here.factor (x k);
        solves = subst (λ (z : ℤ). Solves start z rest.y) (times_back rest.factor here.factor m) rest.solves;
      }
