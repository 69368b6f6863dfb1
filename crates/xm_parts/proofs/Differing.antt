-- How two rows of a part differ, place by place.
use Rattle.std.proofs.Common.{◌≡◌, ◌≢◌, ℕ, zero, suc, ◌+◌, ◌<◌, Bool, true, false, List, [], ◌∷◌, ◌++◌, length, length-append, ap, sym, ◌∙◌, subst, inl, inr, arith, get_or, Some, None, slice_get}
use Rattle.std.specs.Prelude.{Option}
use Rattle.std.proofs.lemmas.Bool.{cases_lt}
use Rattle.std.proofs.lemmas.List.{length-map}
use Rattle.xm_model.specs.Component.{Content, content_of}
use Rattle.xm_model.specs.declared.state.Wire.{Wire}
use Rattle.xm_order.specs.Lemmas.Items.{get-append_left, get-push_last, push_cases}
use Rattle.xm_parts.specs.Changing.{AreCellChanges, AreWireChanges, IsCellChange, IsChangeOfCell, IsWireChange, passed, place_of}
use Rattle.xm_parts.specs.Rows.{contents_in}
use Rattle.xm_parts.specs.declared.changes.CellChange.{CellChange}
use Rattle.xm_parts.specs.declared.changes.WireChange.{WireChange}
use Rattle.xm_parts.specs.declared.row.PrimCell.{PrimCell}

-- the step of a queue, found from the lengths
module _ (new : List ℕ) (r : Option ℕ) (last : (ps : List ℕ) (d : ℕ) → new ≡ ps ++ d ∷ [] → r ≡ Some d) where
  pub longer : (old : List ℕ) (popped : Bool) (pushed : Option ℕ) → passed popped pushed old ≡ new → length old < length new → passed false r old ≡ new
  longer old false None is more = absurd (let same = ap length is in omega arith)
  longer old false (Some d) is more = rw (last old d (sym is)) is
  longer [] true None is more = absurd (let same = ap length is in omega arith)
  longer (x ∷ xs) true None is more = absurd (let same = ap length is in omega arith)
  longer [] true (Some d) is more = rw (last [] d (sym is)) is
  longer (x ∷ xs) true (Some d) is more = absurd (let same = ap length is in let count = length-append xs (d ∷ []) in omega arith)

  pub replaced : (old : List ℕ) (popped : Bool) (pushed : Option ℕ) → passed popped pushed old ≡ new → length old ≡ length new → old ≢ new → passed true r old ≡ new
  replaced old false None is same differ = absurd (differ is)
  replaced old false (Some d) is same differ = absurd (let long = ap length is in let count = length-append old (d ∷ []) in omega arith)
  replaced [] true None is same differ = absurd (differ is)
  replaced (x ∷ xs) true None is same differ = absurd (let long = ap length is in omega arith)
  replaced [] true (Some d) is same differ = absurd (let long = ap length is in omega arith)
  replaced (x ∷ xs) true (Some d) is same differ = rw (last xs d (sym is)) is

pub shorter : (new old : List ℕ) (popped : Bool) (pushed : Option ℕ) → passed popped pushed old ≡ new → length new < length old → passed true None old ≡ new
shorter new old false None is less = absurd (let long = ap length is in omega arith)
shorter new old false (Some d) is less = absurd (let long = ap length is in let count = length-append old (d ∷ []) in omega arith)
shorter new [] true None is less = is
shorter new (x ∷ xs) true None is less = is
shorter new [] true (Some d) is less = absurd (omega arith)
shorter new (x ∷ xs) true (Some d) is less = absurd (let long = ap length is in let count = length-append xs (d ∷ []) in omega arith)

-- what a cell of the code shows
pub content_here : (cells : List PrimCell) (k : ℕ) (d : PrimCell) → k < length cells → slice_get (contents_in cells) k ≡ Some ((get_or cells k d).prim, content_of (get_or cells k d).cell)
content_here [] k d h = absurd (omega arith)
content_here (x ∷ xs) zero d h = λ i. Some (x.prim, content_of x.cell)
content_here (x ∷ xs) (suc k) d h = content_here xs k d (omega arith)

module _ (old new : List (ℕ × Content)) where
  pub no_cells : AreCellChanges old new 0 []
  no_cells = record { each = λ k c at. absurd cc; below = λ k c at. absurd cc; once = λ j k c d at there same. absurd cc; rest = λ i h none. absurd (omega arith) }

  module _ (n i : ℕ) (s t : Content) (cs : List CellChange) (was : slice_get old n ≡ Some (i, s)) (is : slice_get new n ≡ Some (i, t)) (before : AreCellChanges old new n cs) where
    pub cells_push : (c : CellChange) → IsChangeOfCell n s t c → AreCellChanges old new (n + 1) (cs ++ c ∷ [])
    cells_push c of = record {
      each = λ k d at. elim (push_cases cs c k d at) [
        | inl h ↦ before.each k d h
        | inr h ↦ subst (λ (x : CellChange). IsCellChange old new x) h.1 (record {
          prim = i;
          before = s;
          was = ap (slice_get old) of.place_is ∙ was;
          is = ap (slice_get new) of.place_is ∙ is ∙ ap (λ (x : Content). with_prim x) of.after_is;
          differs = λ same. of.differs (of.after_is ∙ same);
          plain = of.plain;
        })
      ];
      below = λ k d at. elim (push_cases cs c k d at) [
        | inl h ↦ (let b = before.below k d h in omega arith)
        | inr h ↦ (let p = ap place_of (sym h.1) ∙ of.place_is in omega arith)
      ];
      once = λ j k d e at there same. elim (push_cases cs c j d at) [
        | inl h ↦ elim (push_cases cs c k e there) [
          | inl g ↦ before.once j k d e h g same
          | inr g ↦ absurd (let b = before.below j d h in let p = ap place_of (sym g.1) ∙ of.place_is in omega arith)
        ]
        | inr h ↦ elim (push_cases cs c k e there) [
          | inl g ↦ absurd (let b = before.below k e g in let p = ap place_of (sym h.1) ∙ of.place_is in omega arith)
          | inr g ↦ h.0 ∙ sym g.0
        ]
      ];
      rest = λ j less none. elim (cases_lt j n) [
        | inl h ↦ before.rest j h (λ k d at. none k d (get-append_left cs (c ∷ []) k d at))
        | inr h ↦ absurd (none (length cs) c (get-push_last cs c) (let p = of.place_is in omega arith))
      ];
    } where
      with_prim : Content → Option (ℕ × Content)
      with_prim x = Some (i, x)

    pub cells_skip : t ≡ s → AreCellChanges old new (n + 1) cs
    cells_skip same = record {
      each = before.each;
      below = λ k d at. (let b = before.below k d at in omega arith);
      once = before.once;
      rest = λ j less none. elim (cases_lt j n) [
        | inl h ↦ before.rest j h none
        | inr h ↦ (let here : j ≡ n = omega arith in ap (slice_get new) here ∙ is ∙ ap (λ (x : Content). with_prim x) same ∙ sym was ∙ ap (slice_get old) (sym here))
      ];
    } where
      with_prim : Content → Option (ℕ × Content)
      with_prim x = Some (i, x)

module _ (old new : List Wire) where
  pub no_wires : AreWireChanges old new 0 []
  no_wires = record { each = λ k c at. absurd cc; below = λ k c at. absurd cc; once = λ j k c d at there same. absurd cc; rest = λ i h none. absurd (omega arith) }

  module _ (n : ℕ) (cs : List WireChange) (before : AreWireChanges old new n cs) where
    pub wires_push : (c : WireChange) → c.place ≡ n → IsWireChange old new c → AreWireChanges old new (n + 1) (cs ++ c ∷ [])
    wires_push c place_is of = record {
      each = λ k d at. elim (push_cases cs c k d at) [ inl h ↦ before.each k d h | inr h ↦ subst (λ (x : WireChange). IsWireChange old new x) h.1 of ];
      below = λ k d at. elim (push_cases cs c k d at) [
        | inl h ↦ (let b = before.below k d h in omega arith)
        | inr h ↦ (let p = ap (λ (x : WireChange). x.place) (sym h.1) ∙ place_is in omega arith)
      ];
      once = λ j k d e at there same. elim (push_cases cs c j d at) [
        | inl h ↦ elim (push_cases cs c k e there) [
          | inl g ↦ before.once j k d e h g same
          | inr g ↦ absurd (let b = before.below j d h in let p = ap (λ (x : WireChange). x.place) (sym g.1) ∙ place_is in omega arith)
        ]
        | inr h ↦ elim (push_cases cs c k e there) [
          | inl g ↦ absurd (let b = before.below k e g in let p = ap (λ (x : WireChange). x.place) (sym h.1) ∙ place_is in omega arith)
          | inr g ↦ h.0 ∙ sym g.0
        ]
      ];
      rest = λ j less none. elim (cases_lt j n) [
        | inl h ↦ before.rest j h (λ k d at. none k d (get-append_left cs (c ∷ []) k d at))
        | inr h ↦ absurd (none (length cs) c (get-push_last cs c) (omega arith))
      ];
    }

    pub wires_skip : slice_get new n ≡ slice_get old n → AreWireChanges old new (n + 1) cs
    wires_skip same = record {
      each = before.each;
      below = λ k d at. (let b = before.below k d at in omega arith);
      once = before.once;
      rest = λ j less none. elim (cases_lt j n) [
        | inl h ↦ before.rest j h none
        | inr h ↦ (let here : j ≡ n = omega arith in ap (slice_get new) here ∙ same ∙ ap (slice_get old) (sym here))
      ];
    }

pub same_length : (old new : List PrimCell) → length (contents_in new) ≡ length (contents_in old) → length new ≡ length old
same_length old new h = sym (length-map {B = ℕ × Content} new (λ (x : PrimCell). (x.prim, content_of x.cell))) ∙ h ∙ length-map {B = ℕ × Content} old (λ (x : PrimCell). (x.prim, content_of x.cell))

pub wire_here : (wires : List Wire) (k : ℕ) (d : Wire) → k < length wires → slice_get wires k ≡ Some (get_or wires k d)
wire_here [] k d h = absurd (omega arith)
wire_here (x ∷ xs) zero d h = λ i. Some x
wire_here (x ∷ xs) (suc k) d h = wire_here xs k d (omega arith)

pub wire_differs : (x y : Wire) (o p : Option Wire) → o ≡ Some x → p ≡ Some y → x ≢ y → p ≢ o
wire_differs x y o p is_x is_y differ same = differ (one (sym is_x ∙ sym same ∙ is_y)) where
  one : Some x ≡ Some y → x ≡ y
  one e = cc
