-- Looking for a column among rising entries.
use Rattle.std.proofs.Common.{◌≡◌, ◌≢◌, ◌↔◌, ℕ, ◌+◌, ◌<◌, ◌≤◌, inl, inr, List, ◌∷◌, length, get_or, drop, Bool, true, false, nat_eq, eq-eqb, pos, ℤ, refl, sym, ◌∙◌, ap, subst, arith, IsTrue, All}
use Rattle.std.proofs.lemmas.Bool.{cases_eq, ne_eqb}
use Rattle.std.proofs.lemmas.List.{drop_more, drop_all}
use Rattle.std.proofs.lemmas.List.Elements.{All-head, All-tail, All-cons, All-weaker}
use Rattle.xm_rows.specs.declared.row.Entry.{Entry}
use Rattle.xm_rows.specs.Row.{IsRising, IsRow, SparseRow, coefficient}
use Rattle.xm_rows.specs.Lemmas.Entries.{coefficient_absent, first_coefficient, later_coefficient, rising_above, rising_tail}

-- what is left has in the column what all have
pub record IsAhead (entries rest : List Entry) (column : ℕ) : Type 0 where
  pub rising : IsRising rest
  pub nonzero : All (λ e. e.value ≢ pos 0) rest
  pub same : coefficient rest column ≡ coefficient entries column

pub ahead_all : (r : SparseRow) (es : List Entry) (column : ℕ) → es ≡ r.entries → IsRow r → IsAhead es es column
ahead_all r es column is row = record { rising = subst IsRising (sym is) row.rising; nonzero = subst (All (λ (e : Entry). e.value ≢ pos 0)) (sym is) row.nonzero; same = refl }

pub ahead_more : (es : List Entry) (i : ℕ) (d : Entry) (column : ℕ) → i < length es → IsAhead es (drop i es) column → (get_or es i d).column < column →
    IsAhead es (drop (i + 1) es) column
ahead_more es i d column within h below =
    let e = drop_more es i d within in
    record {
      rising = rising_tail (get_or es i d) (drop (i + 1) es) (subst IsRising e h.rising);
      nonzero = All-tail (λ (f : Entry). f.value ≢ pos 0) (get_or es i d) (drop (i + 1) es) (subst (All (λ (f : Entry). f.value ≢ pos 0)) e h.nonzero);
      same = sym (later_coefficient (get_or es i d) (drop (i + 1) es) column (λ is. absurd (omega arith))) ∙ ap (λ (l : List Entry). coefficient l column) (sym e) ∙ h.same;
    }

pub never : {A : Type 0} (b : Bool) → b ≡ true → b ≡ false → A
never b is not = absurd (cc)

first_decides : (e : Entry) (es : List Entry) (column : ℕ) (b : Bool) → IsRising (e ∷ es) → All (λ e. e.value ≢ pos 0) (e ∷ es) → column ≤ e.column → b ≡ nat_eq e.column column →
    IsTrue b ↔ (coefficient (e ∷ es) column ≢ pos 0)
first_decides e es column b up nonzero above is =
    elim (cases_eq e.column column) [
      | inl same ↦
          (λ t. λ gone. All-head (λ (f : Entry). f.value ≢ pos 0) e es nonzero (sym (first_coefficient e es column up same) ∙ gone), λ some. is ∙ eq-eqb e.column column same)
      | inr other ↦
          let none = coefficient_absent (e ∷ es) column (All-cons (λ (f : Entry). f.column ≢ column) e es other
          (All-weaker (λ (f : Entry). e.column < f.column) (λ f. f.column ≢ column) (λ f p. omega arith) es (rising_above e es e.column (omega arith) up))) in
          let not = is ∙ ne_eqb e.column column other in
          (λ t. never b t not, λ some. absurd (some none))
    ]

pub ahead_found : (r : SparseRow) (es : List Entry) (i : ℕ) (d : Entry) (column : ℕ) (b : Bool) → es ≡ r.entries → i < length es → IsAhead es (drop i es) column →
    column ≤ (get_or es i d).column → b ≡ nat_eq (get_or es i d).column column → IsTrue b ↔ (coefficient r.entries column ≢ pos 0)
ahead_found r es i d column b is within h above test =
    let e = drop_more es i d within in
    let same = ap (λ (l : List Entry). coefficient l column) (sym e) ∙ h.same ∙ ap (λ (l : List Entry). coefficient l column) is in
    let by_first = first_decides (get_or es i d) (drop (i + 1) es) column b (subst IsRising e h.rising) (subst (All (λ (f : Entry). f.value ≢ pos 0)) e h.nonzero) above test in
    subst (λ (z : ℤ). IsTrue b ↔ (z ≢ pos 0)) same by_first

pub ahead_none : (r : SparseRow) (es : List Entry) (i column : ℕ) → es ≡ r.entries → length es ≤ i → IsAhead es (drop i es) column →
    IsTrue false ↔ (coefficient r.entries column ≢ pos 0)
ahead_none r es i column is past h =
    let none = ap (λ (l : List Entry). coefficient l column) (sym is) ∙ sym h.same ∙ ap (λ (l : List Entry). coefficient l column) (drop_all i es past) in
    (λ t. never false t refl, λ some. absurd (some none))
