-- What stands where among the numbers that pass a test.
use Rattle.std.proofs.Common.{◌≡◌, ℕ, zero, suc, ◌+◌, ◌<◌, ◌≤◌, Bool, true, false, List, [], ◌∷◌, ◌++◌, length, Some, slice_get, refl, ap, subst, sym, ◌∙◌, inl, inr, arith, length-append}
use Rattle.std.specs.Prelude.{◌⊎◌, cond}
use Rattle.std.proofs.lemmas.Bool.{cases_lt, cond-true}
use Rattle.xm_parts.specs.Passing.{passing, place}

pub passing_length : (test : ℕ → Bool) (n : ℕ) → length (passing test n) ≡ place test n
passing_length test zero = refl
passing_length test (suc n) = last (test n) (passing_length test n) where
  last : (b : Bool) → length (passing test n) ≡ place test n → length (passing test n ++ cond b (n ∷ []) []) ≡ place test n + cond b 1 0
  last true rest = simp length-append (omega arith)
  last false rest = simp length-append (omega arith)

pub get-append_left : {X : Type 0} (xs ys : List X) (k : ℕ) (x : X) → slice_get xs k ≡ Some x → slice_get (xs ++ ys) k ≡ Some x
get-append_left [] ys k x e = absurd cc
get-append_left (y ∷ xs) ys zero x e = e
get-append_left (y ∷ xs) ys (suc k) x e = get-append_left xs ys k x e

pub get-append_at : {X : Type 0} (xs : List X) (x : X) (k : ℕ) → k ≡ length xs → slice_get (xs ++ x ∷ []) k ≡ Some x
get-append_at [] x zero e = refl
get-append_at [] x (suc k) e = absurd (omega arith)
get-append_at (y ∷ xs) x zero e = absurd (omega arith)
get-append_at (y ∷ xs) x (suc k) e = get-append_at xs x k (omega arith)

pub get-append_cases : {X : Type 0} (xs ys : List X) (k : ℕ) (x : X) → slice_get (xs ++ ys) k ≡ Some x → (slice_get xs k ≡ Some x) ⊎ ((j : ℕ) × (k ≡ length xs + j) × (slice_get ys j ≡ Some x))
get-append_cases [] ys k x e = inr (k, omega arith, e)
get-append_cases (y ∷ xs) ys zero x e = inl e
get-append_cases (y ∷ xs) ys (suc k) x e = elim (get-append_cases xs ys k x e) [ inl h ↦ inl h | inr h ↦ inr (h.0, omega (arith, h.1), h.2) ]

-- a number that passes stands at its place
pub passing_at : (test : ℕ → Bool) (n c : ℕ) → c < n → test c ≡ true → slice_get (passing test n) (place test c) ≡ Some c
passing_at test zero c h is = absurd (omega arith)
passing_at test (suc n) c h is =
    elim (cases_lt c n) [
      | inl below ↦ get-append_left (passing test n) (cond (test n) (n ∷ []) []) (place test c) c (passing_at test n c below is)
      | inr above ↦
          let same : c ≡ n = omega arith in
          subst (λ (k : ℕ). slice_get (passing test n ++ cond (test k) (k ∷ []) []) (place test c) ≡ Some c) same
          (rw is (get-append_at (passing test n) c (place test c) (ap (place test) same ∙ sym (passing_length test n))))
    ]

-- what stands at a place is a number that passes and has that place
pub record IsPassing (test : ℕ → Bool) (n k c : ℕ) : Type 0 where
  pub below : c < n
  pub passes : test c ≡ true
  pub at : place test c ≡ k

pub passing_from : (test : ℕ → Bool) (n k c : ℕ) → slice_get (passing test n) k ≡ Some c → IsPassing test n k c
passing_from test zero k c e = absurd cc
passing_from test (suc n) k c e =
    elim (get-append_cases (passing test n) (cond (test n) (n ∷ []) []) k c e) [
      | inl h ↦ (let rest = passing_from test n k c h in record { below = omega (arith, rest.below); passes = rest.passes; at = rest.at })
      | inr h ↦ last (test n) refl h.0 h.1 h.2
    ] where
      last : (b : Bool) → test n ≡ b → (j : ℕ) → k ≡ length (passing test n) + j → slice_get (cond b (n ∷ []) []) j ≡ Some c → IsPassing test (suc n) k c
      last true is zero at there = let same : n ≡ c = cc in record { below = omega arith; passes = ap test (sym same) ∙ is; at = ap (place test) (sym same) ∙ sym (passing_length test n) ∙ (let e : length (passing test n) ≡ k = omega arith in e) }
      last true is (suc j) at there = absurd cc
      last false is j at there = absurd cc

pub place_rises : (test : ℕ → Bool) (m n : ℕ) → m ≤ n → place test m ≤ place test n
place_rises test m zero h = let same : m ≡ 0 = omega arith in rw same (omega arith)
place_rises test m (suc n) h =
    elim (cases_lt m (suc n)) [
      | inl below ↦ (let rest = place_rises test m n (omega arith) in omega (arith, rest))
      | inr above ↦ (let same : m ≡ suc n = omega arith in rw same (omega arith))
    ]

pub place_below : (test : ℕ → Bool) (m n : ℕ) → m < n → test m ≡ true → place test m < place test n
place_below test m n h is = let rest = place_rises test (suc m) n (omega arith) in let one : cond (test m) 1 0 ≡ 1 = cond-true {A = ℕ} (test m) 1 0 is in omega (arith, rest, one)

-- two numbers that pass and have one place are one
pub place_once : (test : ℕ → Bool) (c d : ℕ) → test c ≡ true → test d ≡ true → place test c ≡ place test d → c ≡ d
place_once test c d is_c is_d e =
    elim (cases_lt c d) [
      | inl less ↦ absurd (let h = place_below test c d less is_c in omega arith)
      | inr more ↦ elim (cases_lt d c) [
        | inl less ↦ absurd (let h = place_below test d c less is_d in omega arith)
        | inr same ↦ omega arith
      ]
    ]
