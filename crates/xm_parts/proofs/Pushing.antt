-- What holds of each item of a list that grows at its end.
use Rattle.std.proofs.Common.{◌≡◌, ℕ, List, [], ◌∷◌, ◌++◌, length, subst, arith, inl, inr, zero, suc, ◌+◌, Some, slice_get}
use Rattle.xm_parts.proofs.Passing.{get-append_cases}

pub push_each : {X : Type 0} (P : ℕ → X → Type 0) (xs : List X) (y : X) (n : ℕ) → length xs ≡ n → ((k : ℕ) (x : X) → slice_get xs k ≡ Some x → P k x) → P n y →
    (k : ℕ) (x : X) → slice_get (xs ++ y ∷ []) k ≡ Some x → P k x
push_each {X} P xs y n len each last k x at =
    elim (get-append_cases xs (y ∷ []) k x at) [
      | inl h ↦ each k x h
      | inr h ↦ one h.0 h.1 h.2
    ] where
      one : (j : ℕ) → k ≡ length xs + j → slice_get (y ∷ []) j ≡ Some x → P k x
      one zero is there = let same : y ≡ x = cc in let place : n ≡ k = omega arith in subst (λ (z : X). P k z) same (subst (λ (i : ℕ). P i y) place last)
      one (suc j) is there = absurd cc
