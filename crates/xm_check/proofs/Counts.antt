-- The packets of a queue, counted by colour, are as many as it has.
use Rattle.std.proofs.Common.{◌≡◌, ℕ, suc, ◌+◌, Some, List, [], ◌∷◌, length, slice_get, nat_eq, refl, sym, ◌∙◌, arith, inl, inr}
use Rattle.std.proofs.lemmas.Bool.{cases_eq, eq-eqb, ne_eqb}
use Rattle.xm_model.specs.Membership.{times}

one_if : (x y : ℕ) → nat_eq x y ≡ nat_eq y x
one_if x y = elim (cases_eq x y) [
  | inl same ↦ eq-eqb x y same ∙ sym (eq-eqb y x (sym same))
  | inr differ ↦ ne_eqb x y differ ∙ sym (ne_eqb y x (λ same. differ (sym same)))
]

-- how many packets have one of these colours
abbrev pub total_count : List ℕ → List ℕ → ℕ
total_count [] ps = 0
total_count (d ∷ ds) ps = times d ps + total_count ds ps

total_count-nil : (ds : List ℕ) → total_count ds [] ≡ 0
total_count-nil [] = refl
total_count-nil (d ∷ ds) = let rest = total_count-nil ds in omega (arith, rest)

total_count-cons : (ds : List ℕ) (p : ℕ) (ps : List ℕ) → total_count ds (p ∷ ps) ≡ times p ds + total_count ds ps
total_count-cons [] p ps = omega arith
total_count-cons (d ∷ ds) p ps =
    let rest = total_count-cons ds p ps in
    let turned = one_if p d in
    rw turned (omega (arith, rest))

pub total_count-all : (ds ps : List ℕ) → ((j p : ℕ) → slice_get ps j ≡ Some p → times p ds ≡ 1) → total_count ds ps ≡ length ps
total_count-all ds [] once = total_count-nil ds
total_count-all ds (p ∷ ps) once =
    let rest = total_count-all ds ps (λ j. once (suc j)) in
    let first = once 0 p refl in
    omega (arith, rest, first, total_count-cons ds p ps)
