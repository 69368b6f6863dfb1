-- Changes made one after another, each at a place of its own.
use Rattle.std.proofs.Common.{◌≡◌, ◌≢◌, ℕ, ◌+◌, ◌<◌, List, length, set, ap, sym, ◌∙◌, subst, inl, inr, arith, Some, slice_get}
use Rattle.std.proofs.lemmas.Bool.{cases_lt}
use Rattle.xm_model.specs.Component.{content_of}
use Rattle.xm_model.specs.declared.state.Cell.{Cell}
use Rattle.xm_model.specs.declared.state.Wire.{Wire}
use Rattle.xm_order.specs.Lemmas.Items.{get-set_other, get-set_same}
use Rattle.xm_parts.proofs.CellsAt.{cell_set_other, cell_set_same}
use Rattle.xm_parts.specs.Changing.{CanApplyAll, HasRoomFor, IsApplied, IsPlainChange, place_of}
use Rattle.xm_parts.specs.Rows.{cell_in}
use Rattle.xm_parts.specs.declared.changes.CellChange.{CellChange}
use Rattle.xm_parts.specs.declared.changes.WireChange.{WireChange}
use Rattle.xm_parts.specs.declared.row.PrimCell.{PrimCell}

module _ (old : List PrimCell) (cs : List CellChange) (can : CanApplyAll old cs) (now : List PrimCell) (j : ℕ) (c : CellChange) (at : slice_get cs j ≡ Some c)
    (each : (k : ℕ) (d : CellChange) → k < j → slice_get cs k ≡ Some d → IsApplied d (cell_in old (place_of d)) (cell_in now (place_of d)))
    (rest : (i : ℕ) → ((k : ℕ) (d : CellChange) → k < j → slice_get cs k ≡ Some d → place_of d ≢ i) → cell_in now i ≡ cell_in old i) where
  untouched : cell_in now (place_of c) ≡ cell_in old (place_of c)
  untouched = rest (place_of c) (λ k d less there same. absurd (let e = can.once k j d c there at same in omega arith))

  pub plain_here : IsPlainChange c (content_of (cell_in now (place_of c)))
  plain_here = subst (λ (x : Cell). IsPlainChange c (content_of x)) (sym untouched) (can.plain j c at)

  pub room_here : HasRoomFor c (cell_in now (place_of c))
  room_here = subst (λ (x : Cell). HasRoomFor c x) (sym untouched) (can.rooms j c at)

  module _ (x : PrimCell) (inside : place_of c < length now) (done : IsApplied c (cell_in now (place_of c)) x.cell) where
    pub each_more : (k : ℕ) (d : CellChange) → k < j + 1 → slice_get cs k ≡ Some d → IsApplied d (cell_in old (place_of d)) (cell_in (set now (place_of c) x) (place_of d))
    each_more k d less there =
        elim (cases_lt k j) [
          | inl before ↦ (let apart : place_of d ≢ place_of c = (λ same. absurd (let e = can.once k j d c there at same in omega arith)) in
              subst (λ (y : Cell). IsApplied d (cell_in old (place_of d)) y) (sym (cell_set_other now (place_of c) (place_of d) x apart)) (each k d before there))
          | inr here ↦ (let same : k ≡ j = omega arith in
              let one : c ≡ d = cc (at, there, ap (slice_get cs) same) in
              subst (λ (e : CellChange). IsApplied e (cell_in old (place_of e)) (cell_in (set now (place_of c) x) (place_of e))) one
              (subst (λ (y : Cell). IsApplied c (cell_in old (place_of c)) y) (sym (cell_set_same now (place_of c) x inside)) (subst (λ (y : Cell). IsApplied c y x.cell) untouched done)))
        ]

    pub rest_more : (i : ℕ) → ((k : ℕ) (d : CellChange) → k < j + 1 → slice_get cs k ≡ Some d → place_of d ≢ i) → cell_in (set now (place_of c) x) i ≡ cell_in old i
    rest_more i none =
        cell_set_other now (place_of c) i x (λ same. none j c (omega arith) at (sym same))
        ∙ rest i (λ k d less there. none k d (omega arith) there)

module _ (old : List Wire) (cs : List WireChange) (now : List Wire) (j : ℕ) (c : WireChange) (at : slice_get cs j ≡ Some c) (inside : c.place < length now) where
  pub wire_each : ((i k : ℕ) (d e : WireChange) → slice_get cs i ≡ Some d → slice_get cs k ≡ Some e → d.place ≡ e.place → i ≡ k) →
      ((k : ℕ) (d : WireChange) → k < j → slice_get cs k ≡ Some d → slice_get now d.place ≡ Some d.wire) →
      (k : ℕ) (d : WireChange) → k < j + 1 → slice_get cs k ≡ Some d → slice_get (set now c.place c.wire) d.place ≡ Some d.wire
  wire_each once each k d less there =
      elim (cases_lt k j) [
        | inl before ↦ get-set_other now c.place d.place c.wire (λ same. absurd (let e = once k j d c there at same in omega arith)) ∙ each k d before there
        | inr here ↦ (let same : k ≡ j = omega arith in
            let one : c ≡ d = cc (at, there, ap (slice_get cs) same) in
            subst (λ (e : WireChange). slice_get (set now c.place c.wire) e.place ≡ Some e.wire) one (get-set_same now c.place c.wire inside))
      ]

  pub wire_rest : ((i : ℕ) → ((k : ℕ) (d : WireChange) → k < j → slice_get cs k ≡ Some d → d.place ≢ i) → slice_get now i ≡ slice_get old i) →
      (i : ℕ) → ((k : ℕ) (d : WireChange) → k < j + 1 → slice_get cs k ≡ Some d → d.place ≢ i) → slice_get (set now c.place c.wire) i ≡ slice_get old i
  wire_rest rest i none =
      get-set_other now c.place i c.wire (λ same. none j c (omega arith) at (sym same))
      ∙ rest i (λ k d less there. none k d (omega arith) there)
