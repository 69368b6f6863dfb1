-- The lemmas are reduced.
use Rattle.std.proofs.Common.{◌≡◌, ◌≢◌, ℕ, zero, suc, ◌+◌, ◌<◌, inl, inr, List, [], ◌∷◌, length, map, slice_get, Some, refl, sym, ◌∙◌, ap, subst, arith, pos, ℤ, ◌*ℤ◌, ◌<ℤ◌, All}
use Rattle.std.proofs.lemmas.Bool.{cases_order}
use Rattle.std.proofs.lemmas.List.Elements.{All-head, All-cons, All-weaker}
use Rattle.std.proofs.Math.IntN.{*ℤ-zero}
use Rattle.xm_flow.specs.ValidLemma.{Lemma}
use Rattle.xm_rows.specs.Lemmas.Entries.{coefficient_absent, first_coefficient, rising_above}
use Rattle.xm_rows.specs.Lemmas.Integers.{zero_factor}
use Rattle.xm_rows.specs.Divisor.{IsRowDivisor}
use Rattle.xm_rows.specs.Row.{IsRising, SparseRow, coefficient}
use Rattle.xm_rows.specs.declared.row.Entry.{Entry}
use Rattle.xm_elim.specs.Basis.{IsReducedList, LeadsAt}
use Rattle.xm_elim.specs.Elimination.{Eliminates, IsParted, Pivots, none, with_one, without}
use Rattle.xm_elim.specs.declared.work.Status.TheVariants.{Gone, Pivot}
use Rattle.xm_elim.specs.declared.work.Working.{Working}
use Rattle.xm_elim.proofs.Passing.{same_item, same_place}
use Rattle.xm_elim.proofs.Shaping.{IsShaped}
use Rattle.xm_elim.proofs.Spanning.{pivot_at, split_last}

-- the column of the first entry
pub lead_of : List Entry → ℕ
lead_of [] = 0
lead_of (e ∷ es) = e.column

-- a row that is 0 before a column and not there has its first entry there
pub lead_is : (k : ℕ) (es : List Entry) → IsRising es → All (λ e. e.value ≢ pos 0) es → coefficient es k ≢ pos 0 →
    ((l : ℕ) → l < k → coefficient es l ≡ pos 0) → lead_of es ≡ k
unfolding lead_of
lead_is k [] up nonzero some zeros = absurd (some refl)
lead_is k (e ∷ es) up nonzero some zeros =
    elim (cases_order e.column k) [
      | inl same ↦ same
      | inr w ↦ elim w [
        | inl below ↦
            absurd (All-head (λ (f : Entry). f.value ≢ pos 0) e es nonzero (sym (first_coefficient e es e.column up refl) ∙ zeros e.column below))
        | inr above ↦
            absurd (some (coefficient_absent (e ∷ es) k (All-cons (λ (f : Entry). f.column ≢ k) e es (λ is. absurd (omega arith))
            (All-weaker (λ (f : Entry). k < f.column) (λ f. f.column ≢ k) (λ f p. omega arith) es (rising_above e es k (omega arith) up)))))
      ]
    ]

pub leads_at : (k : ℕ) (es : List Entry) → lead_of es ≡ k → coefficient es k ≢ pos 0 → ((e : Entry) (rest : List Entry) → es ≡ e ∷ rest → pos 0 <ℤ e.value) → LeadsAt k es
unfolding lead_of
leads_at k [] is some positive = absurd (some refl)
leads_at k (e ∷ es) is some positive = (is, positive e es refl)

module _ (moves counts bound : ℕ) (rows : List Working) (h : IsShaped moves bound (moves + counts) rows) where
  -- the pivot leads in its column
  pivot_lead : (j : ℕ) (r : SparseRow) (c : ℕ) → slice_get rows j ≡ Some (record { row = r; status = Pivot (moves + c) }) → lead_of r.entries ≡ moves + c
  pivot_lead j r c at =
      let leads = h.leads j (record { row = r; status = Pivot (moves + c) }) (moves + c) at refl in
      let row = h.row j (record { row = r; status = Pivot (moves + c) }) at in
      lead_is (moves + c) r.entries row.rising row.nonzero leads.some leads.before

  -- pivots are listed by their columns
  pivots_rise : (n : ℕ) (ps : List SparseRow) → Pivots moves rows n ps → (i j : ℕ) (r s : SparseRow) → i < j → slice_get ps i ≡ Some r → slice_get ps j ≡ Some s →
      lead_of r.entries < lead_of s.entries
  pivots_rise zero ps none i j r s below at_i at_j = cc
  pivots_rise (suc n) ps (without before out) i j r s below at_i at_j = pivots_rise n ps before i j r s below at_i at_j
  pivots_rise (suc n) next (with_one {ps = ps} before k p at) i j r s below at_i at_j =
      elim (split_last ps p i r at_i) [
        | inl early_i ↦ elim (split_last ps p j s at_j) [
          | inl early_j ↦ pivots_rise n ps before i j r s below early_i early_j
          | inr last_j ↦
              let first = pivot_at moves rows n ps before i r early_i in
              let low = first.1.0 in
              let lead_r = pivot_lead first.1.1.0 r first.0 first.1.1.1 in
              let lead_p = pivot_lead k p n at in
              let lead_s : lead_of s.entries ≡ moves + n = ap (λ (x : SparseRow). lead_of x.entries) (sym last_j.1) ∙ lead_p in
              omega arith
        ]
        | inr last_i ↦ elim (split_last ps p j s at_j) [
          | inl early_j ↦ let e = last_i.0 in let high = slice_get_below ps j s early_j in absurd (omega arith)
          | inr last_j ↦ let e = last_i.0 in let f = last_j.0 in absurd (omega arith)
        ]
      ]
    where
      slice_get_below : (xs : List SparseRow) (i : ℕ) (x : SparseRow) → slice_get xs i ≡ Some x → i < length xs
      slice_get_below [] i x at = cc
      slice_get_below (y ∷ ys) zero x at = omega arith
      slice_get_below (y ∷ ys) (suc i) x at = let rest = slice_get_below ys i x at in omega arith

  -- the lemma of a pivot leads in the same column, counted from the first of packets
  lemma_some : (r : SparseRow) (it : Lemma) (c : ℕ) → IsParted moves counts r it → c < counts → coefficient r.entries (moves + c) ≢ pos 0 → coefficient it.row.entries c ≢ pos 0
  lemma_some r it c p below some gone = some (sym (p.entries c below) ∙ ap (λ (z : ℤ). p.factor *ℤ z) gone ∙ *ℤ-zero p.factor)

  lemma_zero : (r : SparseRow) (it : Lemma) (c : ℕ) → IsParted moves counts r it → c < counts → coefficient r.entries (moves + c) ≡ pos 0 → coefficient it.row.entries c ≡ pos 0
  lemma_zero r it c p below zero_there = zero_factor p.factor (coefficient it.row.entries c) p.nonzero (p.entries c below ∙ zero_there)

  lemma_lead : (j : ℕ) (r : SparseRow) (it : Lemma) (c : ℕ) → slice_get rows j ≡ Some (record { row = r; status = Pivot (moves + c) }) → IsParted moves counts r it → c < counts →
      lead_of it.row.entries ≡ c
  lemma_lead j r it c at p below =
      let leads = h.leads j (record { row = r; status = Pivot (moves + c) }) (moves + c) at refl in
      lead_is c it.row.entries p.row.rising p.row.nonzero (lemma_some r it c p below leads.some)
      (λ l low. lemma_zero r it l p (omega arith) (leads.before (moves + l) (omega arith)))

-- the pivot of a lemma
pub record Source (moves counts : ℕ) (rows : List Working) (it : Lemma) : Type 0 where
  pub pivot : SparseRow
  pub column : ℕ
  pub below : column < counts
  pub place : ℕ
  pub at : slice_get rows place ≡ Some (record { row = pivot; status = Pivot (moves + column) })
  pub parted : IsParted moves counts pivot it

pub source : (moves counts : ℕ) (flow : List SparseRow) (lemmas : List Lemma) (e : Eliminates moves counts flow lemmas) (i : ℕ) (it : Lemma) → slice_get lemmas i ≡ Some it →
    Source moves counts e.rows it
source moves counts flow lemmas e i it at =
    let r = same_place lemmas e.pivots i it e.whole at in
    let p = pivot_at moves e.rows counts e.pivots e.taken i r.0 r.1 in
    record { pivot = r.0; column = p.0; below = p.1.0; place = p.1.1.0; at = p.1.1.1; parted = e.parted i r.0 it r.1 at }

row_at : (ls : List Lemma) (i : ℕ) (r : SparseRow) → slice_get (map (λ (it : Lemma). it.row) ls) i ≡ Some r → (it : Lemma) × ((slice_get ls i ≡ Some it) × (it.row ≡ r))
row_at [] i r at = cc
row_at (l ∷ ls) zero r at = let is : l.row ≡ r = cc in (l, (refl, is))
row_at (l ∷ ls) (suc i) r at = row_at ls i r at

length-rows : (ls : List Lemma) → length (map (λ (it : Lemma). it.row) ls) ≡ length ls
length-rows [] = refl
length-rows (l ∷ ls) = ap suc (length-rows ls)

lead_at : List Lemma → ℕ → ℕ
lead_at [] i = 0
lead_at (l ∷ ls) zero = lead_of l.row.entries
lead_at (l ∷ ls) (suc i) = lead_at ls i

lead_at-is : (ls : List Lemma) (i : ℕ) (it : Lemma) → slice_get ls i ≡ Some it → lead_at ls i ≡ lead_of it.row.entries
unfolding lead_at
lead_at-is [] i it at = cc
lead_at-is (l ∷ ls) zero it at = let is : l ≡ it = cc in ap (λ (m : Lemma). lead_of m.row.entries) is
lead_at-is (l ∷ ls) (suc i) it at = lead_at-is ls i it at

there : {X : Type 0} (xs : List X) (i : ℕ) → i < length xs → (x : X) × (slice_get xs i ≡ Some x)
there [] i below = absurd (omega arith)
there (x ∷ xs) zero below = (x, refl)
there (x ∷ xs) (suc i) below = there xs i (omega arith)

module _ (moves counts : ℕ) (flow : List SparseRow) (lemmas : List Lemma) (bound : ℕ) (e : Eliminates moves counts flow lemmas) (h : IsShaped moves bound (moves + counts) e.rows) where
  lead_column : (i : ℕ) (it : Lemma) → slice_get lemmas i ≡ Some it → (s : Source moves counts e.rows it) → lead_at lemmas i ≡ s.column
  lead_column i it at s = lead_at-is lemmas i it at ∙ lemma_lead moves counts bound e.rows h s.place s.pivot it s.column s.at s.parted s.below

  leads : (i : ℕ) (r : SparseRow) → slice_get (map (λ (it : Lemma). it.row) lemmas) i ≡ Some r → LeadsAt (lead_at lemmas i) r.entries
  leads i r at =
      let l = row_at lemmas i r at in
      let it = l.0 in
      let s = source moves counts flow lemmas e i it l.1.0 in
      let column = lead_column i it l.1.0 s in
      let pivot_leads = h.leads s.place (record { row = s.pivot; status = Pivot (moves + s.column) }) (moves + s.column) s.at refl in
      subst (λ (x : SparseRow). LeadsAt (lead_at lemmas i) x.entries) l.1.1
      (subst (λ (c : ℕ). LeadsAt c it.row.entries) (sym column)
      (leads_at s.column it.row.entries (lemma_lead moves counts bound e.rows h s.place s.pivot it s.column s.at s.parted s.below)
      (lemma_some moves counts bound e.rows h s.pivot it s.column s.parted s.below pivot_leads.some) s.parted.leads))

  columns_rise : (i j : ℕ) (it other : Lemma) → i < j → slice_get lemmas i ≡ Some it → slice_get lemmas j ≡ Some other → lead_at lemmas i < lead_at lemmas j
  columns_rise i j it other below at_i at_j =
      let r = same_place lemmas e.pivots i it e.whole at_i in
      let s = same_place lemmas e.pivots j other e.whole at_j in
      let first = pivot_at moves e.rows counts e.pivots e.taken i r.0 r.1 in
      let second = pivot_at moves e.rows counts e.pivots e.taken j s.0 s.1 in
      let up = pivots_rise moves counts bound e.rows h counts e.pivots e.taken i j r.0 s.0 below r.1 s.1 in
      let lead_r = pivot_lead moves counts bound e.rows h first.1.1.0 r.0 first.0 first.1.1.1 in
      let lead_s = pivot_lead moves counts bound e.rows h second.1.1.0 s.0 second.0 second.1.1.1 in
      let lead_i = lead_at-is lemmas i it at_i ∙ lemma_lead moves counts bound e.rows h first.1.1.0 r.0 it first.0 first.1.1.1 (e.parted i r.0 it r.1 at_i) first.1.0 in
      let lead_j = lead_at-is lemmas j other at_j ∙ lemma_lead moves counts bound e.rows h second.1.1.0 s.0 other second.0 second.1.1.1 (e.parted j s.0 other s.1 at_j) second.1.0 in
      omega arith

  apart : (i j : ℕ) (it other : Lemma) → j ≢ i → slice_get lemmas i ≡ Some it → slice_get lemmas j ≡ Some other → lead_at lemmas i ≢ lead_at lemmas j
  apart i j it other differs at_i at_j same =
      elim (cases_order i j) [
        | inl equal ↦ differs (sym equal)
        | inr w ↦ elim w [
          | inl below ↦ let up = columns_rise i j it other below at_i at_j in absurd (omega arith)
          | inr above ↦ let up = columns_rise j i other it above at_j at_i in absurd (omega arith)
        ]
      ]

  alone : (i j : ℕ) (r : SparseRow) → i < length (map (λ (it : Lemma). it.row) lemmas) → j ≢ i → slice_get (map (λ (it : Lemma). it.row) lemmas) j ≡ Some r →
      coefficient r.entries (lead_at lemmas i) ≡ pos 0
  alone i j r below differs at =
      let len = length-rows lemmas in
      let l = there lemmas i (omega arith) in
      let m = row_at lemmas j r at in
      let s = source moves counts flow lemmas e i l.0 l.1 in
      let t = source moves counts flow lemmas e j m.0 m.1.0 in
      let lead_i = lead_column i l.0 l.1 s in
      let lead_j = lead_column j m.0 m.1.0 t in
      let places : t.place ≢ s.place = λ same.
      let here : slice_get e.rows s.place ≡ Some (record { row = t.pivot; status = Pivot (moves + t.column) }) = sym (ap (slice_get e.rows) same) ∙ t.at in
      let is = same_item e.rows s.place (record { row = s.pivot; status = Pivot (moves + s.column) }) (record { row = t.pivot; status = Pivot (moves + t.column) }) s.at here in
      let columns = one_column (moves + s.column) (moves + t.column) (ap (λ (w : Working). w.status) is) in
      apart i j l.0 m.0 differs l.1 m.1.0 (omega arith) in
      let gone = h.alone s.place (record { row = s.pivot; status = Pivot (moves + s.column) }) (moves + s.column) t.place
      (record { row = t.pivot; status = Pivot (moves + t.column) }) s.at refl places t.at (pivot_works (moves + t.column)) in
      let zero_there = lemma_zero moves counts bound e.rows h t.pivot m.0 s.column t.parted s.below gone in
      subst (λ (x : SparseRow). coefficient x.entries (lead_at lemmas i) ≡ pos 0) m.1.1
      (subst (λ (c : ℕ). coefficient m.0.row.entries c ≡ pos 0) (sym lead_i) zero_there)
    where
      one_column : (a b : ℕ) → Pivot a ≡ Pivot b → a ≡ b
      one_column a b e = cc

      pivot_works : (c : ℕ) → Pivot c ≡ Gone → ⊥
      pivot_works c e = cc

  pub reduced_list : IsReducedList (map (λ (it : Lemma). it.row) lemmas)
  reduced_list =
      record {
        lead = lead_at lemmas;
        leads = leads;
        rise = λ i j below within.
            let len = length-rows lemmas in
            let l = there lemmas i (omega arith) in
            let m = there lemmas j (omega arith) in
            columns_rise i j l.0 m.0 below l.1 m.1;
        alone = alone;
        lowest = λ i r at.
            let l = row_at lemmas i r at in
            let s = source moves counts flow lemmas e i l.0 l.1.0 in
            subst (IsRowDivisor 1) l.1.1 s.parted.lowest;
      }
