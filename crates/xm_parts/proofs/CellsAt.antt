-- The cells of a row, one after another, past a cycle.
use Rattle.std.proofs.Common.{◌≡◌, ◌≢◌, ℕ, zero, suc, ◌+◌, ◌<◌, ◌≤◌, List, [], ◌∷◌, length, set, get_or, refl, ap, sym, ◌∙◌, subst, arith, inl, inr, Some, slice_get}
use Rattle.std.proofs.lemmas.Bool.Decides.{eqb_tells}
use Rattle.xm_model.specs.Component.{Component}
use Rattle.xm_model.specs.Signals.{Signals}
use Rattle.xm_model.specs.declared.state.Cell.{Cell}
use Rattle.xm_parts.specs.Inner.Going.{HasGone}
use Rattle.xm_parts.specs.Rows.{cell_in, prim_in}
use Rattle.xm_parts.specs.declared.row.PrimCell.{PrimCell}

pub cell_read : (xs : List PrimCell) (k : ℕ) (d : PrimCell) → k < length xs → (get_or xs k d).cell ≡ cell_in xs k
cell_read [] k d h = absurd (omega arith)
cell_read (x ∷ xs) zero d h = refl
cell_read (x ∷ xs) (suc k) d h = cell_read xs k d (omega arith)

pub prim_read : (xs : List PrimCell) (k : ℕ) (d : PrimCell) → k < length xs → (get_or xs k d).prim ≡ prim_in xs k
prim_read [] k d h = absurd (omega arith)
prim_read (x ∷ xs) zero d h = refl
prim_read (x ∷ xs) (suc k) d h = prim_read xs k d (omega arith)

pub cell_set_same : (xs : List PrimCell) (k : ℕ) (x : PrimCell) → k < length xs → cell_in (set xs k x) k ≡ x.cell
cell_set_same [] k x h = absurd (omega arith)
cell_set_same (y ∷ xs) zero x h = refl
cell_set_same (y ∷ xs) (suc k) x h = cell_set_same xs k x (omega arith)

pub cell_set_other : (xs : List PrimCell) (k j : ℕ) (x : PrimCell) → j ≢ k → cell_in (set xs k x) j ≡ cell_in xs j
cell_set_other [] k j x h = refl
cell_set_other (y ∷ xs) zero zero x h = absurd (h refl)
cell_set_other (y ∷ xs) zero (suc j) x h = refl
cell_set_other (y ∷ xs) (suc k) zero x h = refl
cell_set_other (y ∷ xs) (suc k) (suc j) x h = cell_set_other xs k j x (λ e. h (ap suc e))

pub prim_set : (xs : List PrimCell) (k j : ℕ) (x : PrimCell) → x.prim ≡ prim_in xs k → prim_in (set xs k x) j ≡ prim_in xs j
prim_set [] k j x h = refl
prim_set (y ∷ xs) zero zero x h = h
prim_set (y ∷ xs) zero (suc j) x h = refl
prim_set (y ∷ xs) (suc k) zero x h = refl
prim_set (y ∷ xs) (suc k) (suc j) x h = prim_set xs k j x h

module _ (ms : List Component) (old now : List PrimCell) (i : ℕ) (m : Component) (here : PrimCell) (φ : Signals) (below : i < length now) (there : slice_get ms i ≡ Some m) (went : HasGone m (cell_in old i) here.cell φ) where
  pub gone_more : ((k : ℕ) (n : Component) → k < i → slice_get ms k ≡ Some n → HasGone n (cell_in old k) (cell_in now k) φ) → (k : ℕ) (n : Component) → k < i + 1 → slice_get ms k ≡ Some n → HasGone n (cell_in old k) (cell_in (set now i here) k) φ
  gone_more done k n h e =
      elim (eqb_tells k i) [
        | inl t ↦ (let same : m ≡ n = cc (e, there, ap (λ j. slice_get ms j) t.1) in
            subst (λ (j : ℕ). HasGone n (cell_in old j) (cell_in (set now i here) j) φ) (sym t.1)
            (subst (λ (y : Cell). HasGone n (cell_in old i) y φ) (sym (cell_set_same now i here below)) (subst (λ (y : Component). HasGone y (cell_in old i) here.cell φ) same went)))
        | inr t ↦ (let less : k < i = omega arith in subst (λ (y : Cell). HasGone n (cell_in old k) y φ) (sym (cell_set_other now i k here t.1)) (done k n less e))
      ]

  pub rest_more : ((k : ℕ) → i ≤ k → cell_in now k ≡ cell_in old k) → (k : ℕ) → i + 1 ≤ k → cell_in (set now i here) k ≡ cell_in old k
  rest_more rest k h = let ne : k ≢ i = omega arith in cell_set_other now i k here ne ∙ rest k (omega arith)
