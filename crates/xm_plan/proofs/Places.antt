-- Where a choice stands in a row.
use Rattle.std.proofs.Common.{◌≡◌, ℕ, zero, suc, List, [], ◌∷◌, slice_get, slice_index, sym, ap, Some}
use Rattle.xm_model.specs.Views.{choice_or}
use Rattle.xm_model.specs.declared.state.Choice.{Choice}
use Rattle.xm_plan.specs.Planned.{choice_for}

index_is : (xs : List ℕ) (p x : ℕ) → slice_get xs p ≡ Some x → slice_index xs p ≡ x
index_is [] p x e = absurd cc
index_is (y ∷ xs) zero x e = cc
index_is (y ∷ xs) (suc p) x e = index_is xs p x e

pub choice_read : (choices : List ℕ) (row : List Choice) (p place : ℕ) → slice_get choices p ≡ Some place → choice_or (slice_get row place) ≡ choice_for choices row p
choice_read choices row p place at = ap (λ (k : ℕ). choice_or (slice_get row k)) (sym (index_is choices p place at))
