-- Row 0 read entry by entry.
use Rattle.std.proofs.Common.{◌≡◌, ◌≢◌, ℕ, zero, suc, ◌<◌, ◌≤◌, cond, nat_eq, inl, inr, List, [], ◌∷◌, length, take}
use Rattle.std.proofs.Common.{get_or, refl, sym, ◌∙◌, subst, arith, pos, ℤ, ◌<ℤ◌, ◌≤ℤ◌, All}
use Rattle.std.proofs.lemmas.Bool.{cases_eq}
use Rattle.std.proofs.lemmas.Int.{ints}
use Rattle.std.proofs.lemmas.List.Elements.{All-head, All-tail, All-weaker}
use Rattle.xm_rows.specs.declared.row.Entry.{Entry}
use Rattle.xm_rows.specs.Row.{IsRising, coefficient}
use Rattle.xm_rows.specs.Lemmas.Entries.{own_column, other_column, coefficient_absent, rising_tail, rising_above}
use Rattle.xm_rows.specs.Lemmas.Entries.{first_coefficient, later_coefficient}
use Rattle.xm_lp.specs.Start.{Tableau, row_at}
use Rattle.xm_lp.specs.Pivot.{IsLast, IsPivotColumn}

-- no entry of these is negative
abbrev pub AreUp : List Entry → Type 0
AreUp es = All (λ e. pos 0 ≤ℤ e.value) es

part_up : (e : Entry) (k : ℕ) → pos 0 ≤ℤ e.value → pos 0 ≤ℤ cond (nat_eq e.column k) e.value (pos 0)
part_up e k up =
    elim (cases_eq e.column k) [
      | inl is ↦ subst (λ (z : ℤ). pos 0 ≤ℤ z) (sym (own_column e.column k e.value is)) up
      | inr other ↦ subst (λ (z : ℤ). pos 0 ≤ℤ z) (sym (other_column e.column k e.value other)) (omega (arith, ints))
    ]

pub all_up : (es : List Entry) (k : ℕ) → AreUp es → pos 0 ≤ℤ coefficient es k
all_up [] k up = omega (arith, ints)
all_up (e ∷ es) k up =
    let here = part_up e k (All-head (λ e. pos 0 ≤ℤ e.value) e es up) in
    let rest = all_up es k (All-tail (λ e. pos 0 ≤ℤ e.value) e es up) in
    omega (arith, ints)

-- columns below that of entry i, where the entries before it are not negative
pub passed : (es : List Entry) (i k : ℕ) (d : Entry) → i < length es → IsRising es → AreUp (take i es) →
    k < (get_or es i d).column → pos 0 ≤ℤ coefficient es k
passed [] i k d lt up before low = absurd (omega arith)
passed (e ∷ es) zero k d lt up before low =
    let none = coefficient_absent es k (All-weaker (λ f. e.column < f.column) (λ f. f.column ≢ k) (λ f p is. absurd (omega arith)) es (rising_above e es e.column (omega arith) up)) in
    let here = other_column e.column k e.value (λ is. absurd (omega arith)) in
    omega (arith, ints)
passed (e ∷ es) (suc i) k d lt up before low =
    let here = part_up e k (All-head (λ e. pos 0 ≤ℤ e.value) e (take i es) before) in
    let rest = passed es i k d (omega arith) (rising_tail e es up) (All-tail (λ e. pos 0 ≤ℤ e.value) e (take i es) before) low in
    omega (arith, ints)

pub own_value : (es : List Entry) (i : ℕ) (d : Entry) → i < length es → IsRising es →
    coefficient es (get_or es i d).column ≡ (get_or es i d).value
own_value [] i d lt up = absurd (omega arith)
own_value (e ∷ es) zero d lt up = first_coefficient e es e.column up refl
own_value (e ∷ es) (suc i) d lt up =
    let above = rising_above e es e.column (omega arith) up i d (omega arith) in
    later_coefficient e es (get_or es i d).column (λ is. absurd (omega (arith, is, above))) ∙ own_value es i d (omega arith) (rising_tail e es up)

-- an entry at or beyond the artificials ends the search
pub none_before : (t : Tableau) (es : List Entry) (i a : ℕ) (d : Entry) → es ≡ (row_at t.rows 0).entries →
    i < length es → IsRising es → AreUp (take i es) →
    a ≤ (get_or es i d).column → IsLast t a
none_before t es i a d is lt up before high k low =
    subst (λ (l : List Entry). pos 0 ≤ℤ coefficient l k) is (passed es i k d lt up before (omega arith))

pub none_at_all : (t : Tableau) (es : List Entry) (a : ℕ) → es ≡ (row_at t.rows 0).entries → AreUp es → IsLast t a
none_at_all t es a is up k low = subst (λ (l : List Entry). pos 0 ≤ℤ coefficient l k) is (all_up es k up)

pub first_negative : (t : Tableau) (es : List Entry) (i a : ℕ) (d : Entry) → es ≡ (row_at t.rows 0).entries →
    i < length es → IsRising es → AreUp (take i es) →
    (get_or es i d).column < a → (get_or es i d).value <ℤ pos 0 → IsPivotColumn t a (get_or es i d).column
first_negative t es i a d is lt up before low negative =
    record {
      below = low;
      negative = subst (λ (l : List Entry). coefficient l (get_or es i d).column <ℤ pos 0) is (let own = own_value es i d lt up in omega (arith, ints));
      least = λ k less. subst (λ (l : List Entry). pos 0 ≤ℤ coefficient l k) is (passed es i k d lt up before less);
    }
