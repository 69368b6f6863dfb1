-- Rows with the constant 0 all hold where there is nothing.
use Rattle.std.proofs.Common.{◌≡◌, ℕ, ◌+◌, ◌<◌, ◌≤◌, List, [], ◌∷◌, length, take, refl, sym, ◌∙◌, ap, ap₂, subst, pos, ℤ, ◌+ℤ◌, ◌*ℤ◌, All}
use Rattle.std.proofs.Math.IntN.{*ℤ-zero}
use Rattle.std.proofs.lemmas.List.{take_all}
use Rattle.std.proofs.lemmas.List.Elements.{All-weaker}
use Rattle.xm_elim.specs.Basis.{AreOver, IsConsistent}
use Rattle.xm_rows.specs.Points.{Meets}
use Rattle.xm_rows.specs.Row.{IsRow, SparseRow, left_side}
use Rattle.xm_rows.specs.declared.row.Entry.{Entry}
use Rattle.xm_tests.specs.Inner.Over.{IsOver}

nothing : (es : List Entry) → left_side es (λ k. pos 0) ≡ pos 0
nothing [] = refl
nothing (e ∷ es) = ap₂ (λ (x y : ℤ). x +ℤ y) (*ℤ-zero e.value) (nothing es)

pub all_over : (base : ℕ) (rows : List SparseRow) (i : ℕ) → length rows ≤ i → All (IsOver base) (take i rows) → AreOver base rows
all_over base rows i past all =
    let whole = subst (All (IsOver base)) (take_all i rows past) all in
    record {
      rows = All-weaker (IsOver base) IsRow (λ r h. h.row) rows whole;
      within = All-weaker (IsOver base) (λ r. All (λ e. e.column < base) r.entries) (λ r h. h.within) rows whole;
    }

pub all_hold : (base : ℕ) (rows : List SparseRow) (i : ℕ) → length rows ≤ i → All (IsOver base) (take i rows) → IsConsistent rows
all_hold base rows i past all =
    let whole = subst (All (IsOver base)) (take_all i rows past) all in
    record {
      x = λ k. pos 0;
      meets = All-weaker (IsOver base) (λ r. Meets r (pos 1) (λ k. pos 0))
          (λ r h. nothing r.entries ∙ sym (*ℤ-zero (pos 1)) ∙ ap (λ (z : ℤ). pos 1 *ℤ z) (sym h.nothing)) rows whole;
    }
