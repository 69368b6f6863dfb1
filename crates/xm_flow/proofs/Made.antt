-- The parts make a lemma where the columns that they or its row touch have the same on both sides.
use Rattle.std.proofs.Common.{◌≡◌, ℕ, ◌+◌, ◌-◌, ◌<◌, inl, inr, List, [], ◌∷◌, length, get_or, ◌⊎◌, nat_lt, refl, sym, ◌∙◌, ap, subst, arith, All, pos, ℤ, ◌*ℤ◌, ◌<ℤ◌}
use Rattle.std.proofs.Math.IntN.{*ℤ-zero}
use Rattle.std.proofs.lemmas.Bool.{cases_eq, cases_lt, cond-false, cond-true, le-ltb, lt-ltb}
use Rattle.std.proofs.lemmas.Int.{ints}
use Rattle.std.proofs.lemmas.List.Elements.{All-head, All-tail, All-weaker}
use Rattle.xm_flow.proofs.Adding.{row_read, zero_fits}
use Rattle.xm_flow.specs.Inner.Testing.{AreWeighed, IsMet, IsScaled, scaled_at}
use Rattle.xm_flow.specs.ValidLemma.{IsValid, Lemma, flow_at, weighed}
use Rattle.xm_flow.specs.declared.invariant.Part.{Part}
use Rattle.xm_flow.specs.declared.testing.Slot.{Slot}
use Rattle.xm_rows.specs.Lemmas.Entries.{column_or_none, first_coefficient, later_coefficient, rising_tail}
use Rattle.xm_rows.specs.Row.{Fits128, IsRising, SparseRow, coefficient}
use Rattle.xm_rows.specs.declared.row.Entry.{Entry}

-- ---- the scale times a coefficient fits, where it does with each entry

fits_at : (scale : ℤ) (es : List Entry) (k : ℕ) → IsRising es → All (λ e. Fits128 (scale *ℤ e.value)) es → Fits128 (scale *ℤ coefficient es k)
fits_at scale [] k up all = zero_fits (scale *ℤ pos 0) (*ℤ-zero scale)
fits_at scale (e ∷ es) k up all =
    let P : Entry → Type 0 = λ f. Fits128 (scale *ℤ f.value) in
    elim (cases_eq e.column k) [
      | inl same ↦ subst (λ (z : ℤ). Fits128 (scale *ℤ z)) (sym (first_coefficient e es k up same)) (All-head P e es all)
      | inr other ↦
          subst (λ (z : ℤ). Fits128 (scale *ℤ z)) (sym (later_coefficient e es k other)) (fits_at scale es k (rising_tail e es up) (All-tail P e es all))
    ]

pub scaled_fits : (it : Lemma) (k : ℕ) → IsRising it.row.entries → IsScaled it → Fits128 (it.scale *ℤ coefficient it.row.entries k)
scaled_fits it k up is = fits_at it.scale it.row.entries k up is.entries

-- ---- a column is met, or nothing touches it

met_or_none : (M : ℕ → Type 0) (flow : List SparseRow) (ps : List Part) (k : ℕ) →
    All (λ p. All (λ e. M e.column) (flow_at flow p.flow).entries) ps → M k ⊎ (weighed flow ps k ≡ pos 0)
met_or_none M flow [] k all = inr refl
met_or_none M flow (p ∷ ps) k all =
    let P : Part → Type 0 = λ q. All (λ (e : Entry). M e.column) (flow_at flow q.flow).entries in
    elim (column_or_none M (flow_at flow p.flow).entries k (All-head P p ps all)) [
      | inl met ↦ inl met
      | inr none ↦
          elim (met_or_none M flow ps k (All-tail P p ps all)) [
            | inl met ↦ inl met
            | inr rest ↦
                let nothing : p.factor *ℤ coefficient (flow_at flow p.flow).entries k ≡ pos 0 = ap (λ (z : ℤ). p.factor *ℤ z) none ∙ *ℤ-zero p.factor in
                inr (omega (arith, ints, nothing, rest))
          ]
    ]

-- the entries that are read are those of the flow row
pub entries_at : (flow : List SparseRow) (i : ℕ) (r : SparseRow) (es : List Entry) → i < length flow → r ≡ get_or flow i r → es ≡ r.entries →
    es ≡ (flow_at flow i).entries
entries_at flow i r es within read is = is ∙ ap (λ (x : SparseRow). x.entries) (row_read flow i r within read)

-- ---- the whole lemma

module _ (n moves counts : ℕ) (flow : List SparseRow) (it : Lemma) (slots : List Slot) (total : ℤ) (w : AreWeighed n flow it.parts slots total) where
  scaled_move : (k : ℕ) → k < moves → scaled_at moves it k ≡ pos 0
  scaled_move k low = cond-true (nat_lt k moves) (pos 0) (it.scale *ℤ coefficient it.row.entries (k - moves)) (lt-ltb k moves low)

  scaled_count : (k : ℕ) → scaled_at moves it (moves + k) ≡ it.scale *ℤ coefficient it.row.entries k
  scaled_count k =
      cond-false (nat_lt (moves + k) moves) (pos 0) (it.scale *ℤ coefficient it.row.entries (moves + k - moves)) (le-ltb (moves + k) moves (omega arith))
      ∙ (let e : moves + k - moves ≡ k = omega arith in ap (λ (m : ℕ). it.scale *ℤ coefficient it.row.entries m) e)

  pub made : pos 0 <ℤ it.scale → All (λ p. p.flow < length flow) it.parts → All (λ e. e.column < counts) it.row.entries →
      total ≡ it.scale *ℤ it.row.constant → All (λ e. IsMet n moves it slots (moves + e.column)) it.row.entries →
      All (λ p. All (λ e. IsMet n moves it slots e.column) (flow_at flow p.flow).entries) it.parts → IsValid moves counts flow it
  made positive places within total_is row_met parts_met =
      let touched = met_or_none (IsMet n moves it slots) flow it.parts in
      record {
        positive = positive;
        places = places;
        within = within;
        no_moves = λ k low. elim (touched k parts_met) [ inl met ↦ sym (w.sums k) ∙ met ∙ scaled_move k low | inr none ↦ none ];
        counts_same = λ k low.
            elim (column_or_none (λ c. IsMet n moves it slots (moves + c)) it.row.entries k row_met) [
              | inl met ↦ sym (w.sums (moves + k)) ∙ met ∙ scaled_count k
              | inr none ↦
                  elim (touched (moves + k) parts_met) [
                    | inl met ↦ sym (w.sums (moves + k)) ∙ met ∙ scaled_count k
                    | inr nothing ↦ nothing ∙ sym (ap (λ (z : ℤ). it.scale *ℤ z) none ∙ *ℤ-zero it.scale)
                  ]
            ];
        constant = sym w.constant ∙ total_is;
      }

  pub met : IsValid moves counts flow it → (k : ℕ) → k < moves + counts → IsMet n moves it slots k
  met v k within =
      elim (cases_lt k moves) [
        | inl low ↦ w.sums k ∙ v.no_moves k low ∙ sym (scaled_move k low)
        | inr high ↦
            let e : moves + (k - moves) ≡ k = omega arith in
            subst (IsMet n moves it slots) e
            (w.sums (moves + (k - moves)) ∙ v.counts_same (k - moves) (omega arith) ∙ sym (scaled_count (k - moves)))
      ]

  pub row_met : IsValid moves counts flow it → All (λ e. IsMet n moves it slots (moves + e.column)) it.row.entries
  row_met v =
      All-weaker (λ (e : Entry). e.column < counts) (λ e. IsMet n moves it slots (moves + e.column))
      (λ e low. met v (moves + e.column) (omega arith)) it.row.entries v.within

  pub parts_met : All (λ r. All (λ e. e.column < moves + counts) r.entries) flow → IsValid moves counts flow it →
      All (λ p. All (λ e. IsMet n moves it slots e.column) (flow_at flow p.flow).entries) it.parts
  parts_met within v =
      All-weaker (λ (p : Part). p.flow < length flow) (λ p. All (λ e. IsMet n moves it slots e.column) (flow_at flow p.flow).entries)
      (λ p low. All-weaker (λ (e : Entry). e.column < moves + counts) (λ e. IsMet n moves it slots e.column) (λ e at. met v e.column at)
      (flow_at flow p.flow).entries (within p.flow (record { entries = []; constant = pos 0 }) low)) it.parts v.places
