-- Lemmas: what stands in a list that was appended to, filled or written.
use Rattle.std.proofs.Common.{◌≡◌, ◌≢◌, ℕ, zero, suc, ◌+◌, ◌<◌, ◌⊎◌, List, [], ◌∷◌, ◌++◌, Some, length, replicate, set, slice_get, refl, ap, inl, inr, arith}

pub get-append_left : {X : Type 0} (xs ys : List X) (k : ℕ) (x : X) → slice_get xs k ≡ Some x →
    slice_get (xs ++ ys) k ≡ Some x
get-append_left [] ys k x e = absurd cc
get-append_left (y ∷ xs) ys zero x e = e
get-append_left (y ∷ xs) ys (suc k) x e = get-append_left xs ys k x e

pub get-append_right : {X : Type 0} (xs ys : List X) (k j : ℕ) → k ≡ length xs + j →
    slice_get (xs ++ ys) k ≡ slice_get ys j
get-append_right [] ys k j e = ap (slice_get ys) (let same : k ≡ j = omega arith in same)
get-append_right (y ∷ xs) ys zero j e = absurd (omega arith)
get-append_right (y ∷ xs) ys (suc k) j e = get-append_right xs ys k j (omega arith)

pub get-append_within : {X : Type 0} (xs ys : List X) (k : ℕ) → k < length xs → slice_get (xs ++ ys) k ≡ slice_get xs k
get-append_within [] ys k h = absurd (omega arith)
get-append_within (x ∷ xs) ys zero h = refl
get-append_within (x ∷ xs) ys (suc k) h = get-append_within xs ys k (omega arith)

-- an item of the one or of the other
pub append_cases : {X : Type 0} (xs ys : List X) (k : ℕ) (x : X) → slice_get (xs ++ ys) k ≡ Some x →
    (slice_get xs k ≡ Some x) ⊎ ((j : ℕ) × (k ≡ length xs + j) × (slice_get ys j ≡ Some x))
append_cases [] ys k x e = inr (k, (omega arith), e)
append_cases (y ∷ xs) ys zero x e = inl e
append_cases (y ∷ xs) ys (suc k) x e =
    elim (append_cases xs ys k x e) [ inl h ↦ inl h | inr w ↦ inr (w.0, (let at = w.1 in omega arith), w.2) ]

-- an item of the list, or the one that was pushed
pub push_cases : {X : Type 0} (xs : List X) (y : X) (k : ℕ) (x : X) → slice_get (xs ++ y ∷ []) k ≡ Some x →
    (slice_get xs k ≡ Some x) ⊎ ((k ≡ length xs) × (y ≡ x))
push_cases [] y zero x e = inr (refl, cc)
push_cases [] y (suc k) x e = absurd cc
push_cases (z ∷ xs) y zero x e = inl e
push_cases (z ∷ xs) y (suc k) x e =
    elim (push_cases xs y k x e) [ inl h ↦ inl h | inr w ↦ inr ((let at = w.0 in omega arith), w.1) ]

pub get-push_last : {X : Type 0} (xs : List X) (y : X) → slice_get (xs ++ y ∷ []) (length xs) ≡ Some y
get-push_last xs y = get-append_right xs (y ∷ []) (length xs) 0 (omega arith)

pub get-set_same : {X : Type 0} (xs : List X) (i : ℕ) (y : X) → i < length xs → slice_get (set xs i y) i ≡ Some y
get-set_same [] i y h = absurd (omega arith)
get-set_same (x ∷ xs) zero y h = refl
get-set_same (x ∷ xs) (suc i) y h = get-set_same xs i y (omega arith)

pub get-set_other : {X : Type 0} (xs : List X) (i k : ℕ) (y : X) → k ≢ i → slice_get (set xs i y) k ≡ slice_get xs k
get-set_other [] i k y h = refl
get-set_other (x ∷ xs) zero zero y h = absurd (h refl)
get-set_other (x ∷ xs) zero (suc k) y h = refl
get-set_other (x ∷ xs) (suc i) zero y h = refl
get-set_other (x ∷ xs) (suc i) (suc k) y h = get-set_other xs i k y (λ e. h (ap suc e))

pub get-replicate : {X : Type 0} (n : ℕ) (x y : X) (k : ℕ) → slice_get (replicate n x) k ≡ Some y → x ≡ y
get-replicate zero x y k e = absurd cc
get-replicate (suc n) x y zero e = cc
get-replicate (suc n) x y (suc k) e = get-replicate n x y k e
