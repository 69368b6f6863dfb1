-- A design has one list of flow rows.
use Rattle.std.proofs.Common.{◌≡◌, ◌≢◌, ◌∙◌, ℕ, zero, suc, ◌<◌, ◌≤◌, inl, inr, List, [], ◌∷◌, length, slice_get, Some, refl, sym, ap₂, arith, pos, All}
use Rattle.std.proofs.lemmas.Bool.{cases_lt}
use Rattle.std.proofs.lemmas.List.Elements.{All-weaker}
use Rattle.xm_design.specs.Designed.{Designed}
use Rattle.xm_rows.specs.Lemmas.Entries.{coefficient_absent}
use Rattle.xm_rows.specs.Lemmas.Unique.{numbers, same_numbers}
use Rattle.xm_rows.specs.Row.{IsRow, SparseRow, coefficient}
use Rattle.xm_rows.specs.declared.row.Entry.{Entry}
use Rattle.xm_flow.specs.FlowRows.{AreFlowRows, Column, FlowRow, IsNumbered, columns, flow_rows}
use Rattle.xm_flow.specs.Lemmas.Listing.{all_at, same_place, there}

-- a flow row is one sparse row
one_numbered : (listed : List Column) (row : FlowRow) (x y : SparseRow) → IsRow x → IsRow y → IsNumbered listed row x
    → IsNumbered listed row y → x ≡ y
one_numbered listed row x y row_x row_y p q = same_numbers x y row_x row_y by_number
  where
    past : (z : SparseRow) → IsNumbered listed row z → (k : ℕ) → length listed ≤ k → coefficient z.entries k ≡ pos 0
    past z r k high =
        coefficient_absent z.entries k
        (All-weaker (λ (e : Entry). e.column < length listed) (λ e. e.column ≢ k) (λ e within. omega arith) z.entries r.within)

    by_number : (k : ℕ) → numbers x k ≡ numbers y k
    by_number zero = p.constant ∙ sym q.constant
    by_number (suc k) =
        elim (cases_lt k (length listed)) [
          | inl low ↦ let c = there listed k low in p.entries k c.0 c.1 ∙ sym (q.entries k c.0 c.1)
          | inr high ↦ past x p k high ∙ sym (past y q k high)
        ]

same_list : {X : Type 0} (xs ys : List X) → length xs ≡ length ys
    → ((i : ℕ) (x y : X) → slice_get xs i ≡ Some x → slice_get ys i ≡ Some y → x ≡ y) → xs ≡ ys
same_list [] [] len h = refl
same_list [] (y ∷ ys) len h = absurd (omega arith)
same_list (x ∷ xs) [] len h = absurd (omega arith)
same_list {X} (x ∷ xs) (y ∷ ys) len h =
    ap₂ (λ (z : X) (zs : List X). z ∷ zs) (h 0 x y refl refl) (same_list xs ys (omega arith) (λ i. h (suc i)))

pub one_flow : (it : Designed) (xs ys : List SparseRow) → All IsRow xs → All IsRow ys → AreFlowRows it xs → AreFlowRows it ys
    → xs ≡ ys
one_flow it xs ys rows_x rows_y p q =
    same_list xs ys (p.whole ∙ sym q.whole) (λ i x y at_x at_y.
    let row = same_place xs (flow_rows it) i x p.whole at_x in
    one_numbered (columns it) row.0 x y (all_at IsRow xs i x rows_x at_x) (all_at IsRow ys i y rows_y at_y)
    (p.at i row.0 x row.1 at_x) (q.at i row.0 y row.1 at_y))
