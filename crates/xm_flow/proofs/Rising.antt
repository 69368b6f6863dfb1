-- Lists that rise have each of their numbers once.
use Rattle.std.proofs.Common.{◌≡◌, ℕ, false, List, [], ◌∷◌, nat_eq, refl, inl, inr, arith}
use Rattle.std.proofs.lemmas.Bool.{eq-eqb, ne_eqb}
use Rattle.xm_model.specs.Membership.{IsIn, times}
use Rattle.xm_colours.specs.Family.{Rises}
use Rattle.xm_colours.specs.Lemmas.Rising.{above, rises_on}

pub absent : (d : ℕ) (ds : List ℕ) → (IsIn ds d → ⊥) → times d ds ≡ 0
absent d [] none = refl
absent d (x ∷ xs) none =
    let rest = absent d xs (λ h. none (inr h)) in
    let miss : nat_eq x d ≡ false = ne_eqb x d (λ same. none (inl same)) in
    rw miss (omega (arith, rest))

pub once_in : (ds : List ℕ) → Rises ds → (d : ℕ) → IsIn ds d → times d ds ≡ 1
once_in [] rise d inside = absurd inside
once_in (x ∷ xs) rise d (inl same) =
    let none = absent d xs (λ h. let low = above x xs rise d h in omega arith) in
    rw (eq-eqb x d same) (omega (arith, none))
once_in (x ∷ xs) rise d (inr rest) =
    let low = above x xs rise d rest in
    let one = once_in xs (rises_on x xs rise) d rest in
    let miss : nat_eq x d ≡ false = ne_eqb x d (λ same. absurd (omega arith)) in
    rw miss (omega (arith, one))
