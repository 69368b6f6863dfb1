-- Where the items of a list stand among those that pass a test.
use Rattle.std.proofs.Common.{◌≡◌, ℕ, zero, suc, ◌+◌, ◌<◌, Bool, true, false, List, [], ◌∷◌, refl, ap, sym, ◌∙◌, arith, Some, slice_get}
use Rattle.std.specs.Prelude.{cond, filter}
use Rattle.std.proofs.lemmas.Bool.{cond-true}

-- how many of the first items pass
abbrev pub kept : {X : Type 0} → (X → Bool) → List X → ℕ → ℕ
kept f [] k = 0
kept f (x ∷ xs) zero = 0
kept f (x ∷ xs) (suc k) = cond (f x) 1 0 + kept f xs k

pub kept_at : {X : Type 0} (f : X → Bool) (xs : List X) (k : ℕ) (x : X) → slice_get xs k ≡ Some x → f x ≡ true → slice_get (filter f xs) (kept f xs k) ≡ Some x
kept_at f [] k x e h = absurd cc
kept_at f (y ∷ xs) zero x e h = let same : y ≡ x = cc in let is : f y ≡ true = ap f same ∙ h in rw is e
kept_at f (y ∷ xs) (suc k) x e h = step (f y) refl (kept_at f xs k x e h) where
  step : (b : Bool) → f y ≡ b → slice_get (filter f xs) (kept f xs k) ≡ Some x → slice_get (filter f (y ∷ xs)) (cond (f y) 1 0 + kept f xs k) ≡ Some x
  step true is rest = rw is (let one : 1 + kept f xs k ≡ suc (kept f xs k) = omega arith in rw one rest)
  step false is rest = rw is (let none : 0 + kept f xs k ≡ kept f xs k = omega arith in rw none rest)

-- an item that passes and stands at a place among those that do
pub record IsKept {X : Type 0} (f : X → Bool) (xs : List X) (k : ℕ) (x : X) : Type 0 where
  pub place : ℕ
  pub there : slice_get xs place ≡ Some x
  pub passes : f x ≡ true
  pub at : kept f xs place ≡ k

pub kept_from : {X : Type 0} (f : X → Bool) (xs : List X) (k : ℕ) (x : X) → slice_get (filter f xs) k ≡ Some x → IsKept f xs k x
kept_from f [] k x e = absurd cc
kept_from f (y ∷ xs) k x e = step (f y) refl k e (λ j h. kept_from f xs j x h) where
  step : (b : Bool) → f y ≡ b → (k : ℕ) → slice_get (filter f (y ∷ xs)) k ≡ Some x → ((j : ℕ) → slice_get (filter f xs) j ≡ Some x → IsKept f xs j x) → IsKept f (y ∷ xs) k x
  step true is zero e rest = let e' = rw is at e in let same : y ≡ x = cc in record { place = 0; there = e'; passes = ap f (sym same) ∙ is; at = refl }
  step true is (suc j) e rest = let r = rest j (rw is at e) in record { place = suc r.place; there = r.there; passes = r.passes; at = let one : cond {A = ℕ} (f y) 1 0 ≡ 1 = rw is refl in omega (arith, r.at) }
  step false is k e rest = let r = rest k (rw is at e) in record { place = suc r.place; there = r.there; passes = r.passes; at = let none : cond {A = ℕ} (f y) 1 0 ≡ 0 = rw is refl in omega (arith, r.at) }

pub kept_rises : {X : Type 0} (f : X → Bool) (xs : List X) (j k : ℕ) (x : X) → j < k → slice_get xs j ≡ Some x → f x ≡ true → kept f xs j < kept f xs k
kept_rises f [] j k x h e is = absurd cc
kept_rises f (y ∷ xs) j zero x h e is = absurd (omega arith)
kept_rises f (y ∷ xs) zero (suc k) x h e is = let same : y ≡ x = cc in let one : cond {A = ℕ} (f y) 1 0 ≡ 1 = cond-true {A = ℕ} (f y) 1 0 (ap f same ∙ is) in omega arith
kept_rises f (y ∷ xs) (suc j) (suc k) x h e is = let rest = kept_rises f xs j k x (omega arith) e is in omega (arith, rest)
