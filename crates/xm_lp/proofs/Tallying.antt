-- A row added to sums, entry by entry.
use Rattle.std.proofs.Common.{◌≡◌, ◌≢◌, ℕ, zero, suc, ◌+◌, ◌<◌, ◌≤◌, cond, nat_eq, inl, inr, List, [], ◌∷◌, length}
use Rattle.std.proofs.Common.{take, get_or, set, refl, sym, ◌∙◌, ap, subst, arith, pos, ℤ, ◌+ℤ◌, ◌*ℤ◌}
use Rattle.std.proofs.lemmas.Bool.{cases_eq}
use Rattle.std.proofs.lemmas.Int.{ints}
use Rattle.std.proofs.lemmas.List.{get_or-set_same, get_or-set_other, length-set, take_all}
use Rattle.std.proofs.Math.IntN.{*ℤ-zero}
use Rattle.xm_rows.specs.declared.row.Entry.{Entry}
use Rattle.xm_rows.specs.Row.{Fits128, IsRising, coefficient}
use Rattle.xm_rows.specs.Lemmas.Entries.{own_column, other_column, rising_tail, rising_above}
use Rattle.xm_lp.specs.Answer.{number_at}
use Rattle.xm_lp.specs.Lemmas.Tally.{SumFits, AreAdded, AddingLeaves}
use Rattle.xm_lp.proofs.Columns.{own_value}

-- the entries before i have nothing in i's column
before_none : (es : List Entry) (i : ℕ) (d : Entry) → i < length es → IsRising es → coefficient (take i es)
    (get_or es i d).column ≡ pos 0
before_none [] i d lt up = absurd (omega arith)
before_none (e ∷ es) zero d lt up = refl
before_none (e ∷ es) (suc i) d lt up =
    let above = rising_above e es e.column (omega arith) up i d (omega arith) in
    let here = other_column e.column (get_or es i d).column e.value (λ is. absurd (omega (arith, is, above))) in
    let rest = before_none es i d (omega arith) (rising_tail e es up) in
    omega (arith, ints)

-- one entry more
one_more : (es : List Entry) (i k : ℕ) (d : Entry) → i < length es →
    coefficient (take (i + 1) es) k ≡ (coefficient (take i es) k +ℤ cond (nat_eq (get_or es i d).column k) (get_or es i d).value (pos 0))
one_more [] i k d lt = absurd (omega arith)
one_more (e ∷ es) zero k d lt = omega (arith, ints)
one_more (e ∷ es) (suc i) k d lt =
    let rest = one_more es i k d (omega arith) in
    ap (λ (n : ℕ). coefficient (take n (e ∷ es)) k) (step i) ∙ omega (arith, ints)
  where
    step : (i : ℕ) → suc i + 1 ≡ suc (i + 1)
    step i = omega arith

pub added_none : (old : List ℤ) (m : ℤ) (es : List Entry) → ((k : ℕ) → Fits128 (number_at old k)) →
    AreAdded old m (take 0 es) old
added_none old m es fit =
    let none = *ℤ-zero m in
    record {
      count = refl;
      each = λ k lt. omega (arith, ints);
      fit = λ k lt. record {
        product = subst Fits128 (sym none) (omega arith);
        sum = subst Fits128 (same (number_at old k) (m *ℤ pos 0) none) (fit k);
      };
    }
  where
    same : (a z : ℤ) → z ≡ pos 0 → a ≡ a +ℤ z
    same a z e = omega (arith, ints)

fits_as : (total total' m z z' : ℤ) → total ≡ total' → z ≡ z' → SumFits total m z → SumFits total' m z'
fits_as total total' m z z' a b h = subst (λ (n : ℤ). SumFits n m z') a (subst (λ (n : ℤ). SumFits total m n) b h)

-- an entry in a column that there is
pub added_more : (old mid given : List ℤ) (m next : ℤ) (es : List Entry) (i : ℕ) (d : Entry) →
    AreAdded old m (take i es) mid → IsRising es → i < length es →
    (get_or es i d).column < length old → SumFits (number_at mid (get_or es i d).column) m (get_or es i d).value →
    next ≡ (number_at mid (get_or es i d).column +ℤ (m *ℤ (get_or es i d).value)) → given ≡
    set mid (get_or es i d).column next → AreAdded old m (take (i + 1) es) given
added_more old mid given m next es i d a up lt in_old fits is set_is =
    let e = get_or es i d in
    let count = a.count in
    record {
      count = ap (λ (l : List ℤ). length l) set_is ∙ length-set mid e.column next ∙ a.count;
      each = λ k below. elim (cases_eq e.column k) [
        | inl same ↦
            ap (λ (l : List ℤ). number_at l k) set_is ∙ ap (λ (n : ℕ). number_at (set mid e.column next) n) (sym same) ∙ get_or-set_same mid e.column next (pos 0) (omega (arith, count, in_old))
            ∙ is ∙ ap (λ (z : ℤ). z +ℤ (m *ℤ e.value)) (old_here) ∙ ap (λ (z : ℤ). number_at old e.column +ℤ (m *ℤ z)) (sym (now e.column refl)) ∙ ap (λ (n : ℕ). number_at old n +ℤ (m *ℤ coefficient (take (i + 1) es) n)) same
        | inr other ↦
            ap (λ (l : List ℤ). number_at l k) set_is ∙ get_or-set_other mid e.column k next (pos 0) (λ s. other (sym s)) ∙ a.each k below
            ∙ ap (λ (z : ℤ). number_at old k +ℤ (m *ℤ z)) (sym (later k other))
      ];
      fit = λ k below. elim (cases_eq e.column k) [
        | inl same ↦ fits_as (number_at mid e.column) (number_at old k) m e.value (coefficient (take (i + 1) es) k) (old_here ∙ ap (number_at old) same) (sym (now k same)) fits
        | inr other ↦ fits_as (number_at old k) (number_at old k) m (coefficient (take i es) k) (coefficient (take (i + 1) es) k) refl (sym (later k other)) (a.fit k below)
      ];
    }
  where
    none_here : coefficient (take i es) (get_or es i d).column ≡ pos 0
    none_here = before_none es i d lt up

    old_here : number_at mid (get_or es i d).column ≡ number_at old (get_or es i d).column
    old_here =
        let at = a.each (get_or es i d).column in_old in
        let none = ap (λ (z : ℤ). m *ℤ z) none_here ∙ *ℤ-zero m in
        omega (arith, ints)

    now : (k : ℕ) → (get_or es i d).column ≡ k → coefficient (take (i + 1) es) k ≡ (get_or es i d).value
    now k same =
        let more = one_more es i k d lt in
        let own = own_column (get_or es i d).column k (get_or es i d).value same in
        let none = ap (coefficient (take i es)) (sym same) ∙ none_here in
        omega (arith, ints)

    later : (k : ℕ) → (get_or es i d).column ≢ k → coefficient (take (i + 1) es) k ≡ coefficient (take i es) k
    later k other =
        let more = one_more es i k d lt in
        let none = other_column (get_or es i d).column k (get_or es i d).value other in
        omega (arith, ints)

-- an entry in a column beyond
pub added_passed : (old mid : List ℤ) (m : ℤ) (es : List Entry) (i : ℕ) (d : Entry) → AreAdded old m (take i es) mid →
    i < length es →
    length old ≤ (get_or es i d).column → AreAdded old m (take (i + 1) es) mid
added_passed old mid m es i d a lt beyond =
    record {
      count = a.count;
      each = λ k below. a.each k below ∙ ap (λ (z : ℤ). number_at old k +ℤ (m *ℤ z)) (sym (later k below));
      fit = λ k below. fits_as (number_at old k) (number_at old k) m (coefficient (take i es) k) (coefficient (take (i + 1) es) k) refl (sym (later k below)) (a.fit k below);
    }
  where
    later : (k : ℕ) → k < length old → coefficient (take (i + 1) es) k ≡ coefficient (take i es) k
    later k below =
        let more = one_more es i k d lt in
        let none = other_column (get_or es i d).column k (get_or es i d).value (λ e. absurd (omega arith)) in
        omega (arith, ints)

pub adding_leaves : (old mid : List ℤ) (m : ℤ) (es : List Entry) (i : ℕ) (d : Entry) → AreAdded old m (take i es) mid →
    IsRising es → i < length es →
    (get_or es i d).column < length old → ¬ SumFits (number_at mid (get_or es i d).column) m (get_or es i d).value →
    AddingLeaves old m es
adding_leaves old mid m es i d a up lt in_old leaves =
    let k = (get_or es i d).column in
    let at = a.each k in_old in
    let none = ap (λ (z : ℤ). m *ℤ z) (before_none es i d lt up) ∙ *ℤ-zero m in
    let same : number_at old k ≡ number_at mid k = omega (arith, ints) in
    (k, in_old, λ fits. leaves (fits_as (number_at old k) (number_at mid k) m (coefficient es k) (get_or es i d).value same (own_value es i d lt up) fits))

pub added_all : (old new : List ℤ) (m : ℤ) (es : List Entry) (i : ℕ) → AreAdded old m (take i es) new → length es ≤ i →
    AreAdded old m es new
added_all old new m es i a past = subst (λ (l : List Entry). AreAdded old m l new) (take_all i es past) a
