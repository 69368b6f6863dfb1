-- Lists that rise have each number once.
use Rattle.std.proofs.Common.{◌≡◌, ℕ, ◌<◌, false, List, [], ◌∷◌, nat_eq, refl, inl, inr, arith}
use Rattle.std.proofs.lemmas.Bool.{eq-eqb, ne_eqb}
use Rattle.xm_model.specs.Membership.{IsIn, times}
use Rattle.xm_colours.specs.Family.{Rises}

above : (x : ℕ) (ys : List ℕ) → Rises (x ∷ ys) → (d : ℕ) → IsIn ys d → x < d
above x [] rise d inside = absurd inside
above x (y ∷ ys) rise d (inl same) = let low = rise.0 in omega arith
above x (y ∷ ys) rise d (inr rest) = let low = rise.0 in let further = above y ys rise.1 d rest in omega arith

pub absent : (d : ℕ) (ds : List ℕ) → (IsIn ds d → ⊥) → times d ds ≡ 0
absent d [] none = refl
absent d (x ∷ xs) none =
    let rest = absent d xs (λ h. none (inr h)) in
    let miss : nat_eq x d ≡ false = ne_eqb x d (λ same. none (inl same)) in
    rw miss (omega (arith, rest))

rises_on : (x : ℕ) (ys : List ℕ) → Rises (x ∷ ys) → Rises ys
rises_on x [] rise = tt
rises_on x (y ∷ ys) rise = rise.1

pub once_in : (ds : List ℕ) → Rises ds → (d : ℕ) → IsIn ds d → times d ds ≡ 1
once_in [] rise d inside = absurd inside
once_in (x ∷ xs) rise d (inl same) =
    let none = absent d xs (λ h. let low = above x xs rise d h in omega arith) in
    rw (eq-eqb x d same) (omega (arith, none))
once_in (x ∷ xs) rise d (inr rest) =
    let low = above x xs rise d rest in
    let one = once_in xs (rises_on x xs rise) d rest in
    let miss : nat_eq x d ≡ false = ne_eqb x d (λ same. absurd (omega arith)) in
    rw miss (omega (arith, one))
