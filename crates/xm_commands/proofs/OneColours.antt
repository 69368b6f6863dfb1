-- A net has one least family of colours, and one first pair that a list refuses.
use Rattle.std.proofs.Common.{◌≡◌, ℕ, ◌≤◌, List, [], ◌∷◌, refl, sym, inl, inr, arith}
use Rattle.xm_colours.specs.Allowing.{IsFirstRefused, IsUpTo}
use Rattle.xm_colours.specs.Lemmas.Rising.{above, rises_on}
use Rattle.xm_colours.specs.Family.{AreColours, Rises, Within}
use Rattle.xm_model.specs.Naming.{Allowed}
use Rattle.xm_model.specs.Net.{Network}
use Rattle.xm_model.specs.Membership.{IsIn}

-- the least of a list that rises is below no other's least
first_low : (x y : ℕ) (xs ys : List ℕ) → Rises (x ∷ xs) → IsIn (x ∷ xs) y → x ≤ y
first_low x y xs ys rise (inl same) = omega arith
first_low x y xs ys rise (inr rest) = let low = above x xs rise y rest in omega arith

-- what is in the rest is in the other's rest
rest_within : (x y : ℕ) (xs ys : List ℕ) → Rises (x ∷ xs) → x ≡ y → Within (x ∷ xs) (y ∷ ys) → Within xs ys
rest_within x y xs ys rise same all d inside = elim (all d (inr inside)) [
  | inl is ↦ absurd (let low = above x xs rise d inside in omega arith)
  | inr rest ↦ rest
]

-- lists that rise and have the same members are the same
same_list : (xs ys : List ℕ) → Rises xs → Rises ys → Within xs ys → Within ys xs → xs ≡ ys
same_list [] [] rise rise' there back = refl
same_list [] (y ∷ ys) rise rise' there back = absurd (back y (inl refl))
same_list (x ∷ xs) [] rise rise' there back = absurd (there x (inl refl))
same_list (x ∷ xs) (y ∷ ys) rise rise' there back =
    let low = first_low x y xs ys rise (back y (inl refl)) in
    let high = first_low y x ys xs rise' (there x (inl refl)) in
    let same : x ≡ y = omega arith in
    let rest = same_list xs ys (rises_on x xs rise) (rises_on y ys rise') (rest_within x y xs ys rise same there) (rest_within y x ys xs rise' (sym same) back) in
    cc

pub same_colours : (net : Network) (colours others : ℕ → List ℕ) → AreColours net colours → AreColours net others → (c : ℕ) → colours c ≡ others c
same_colours net colours others are are' c = same_list (colours c) (others c) (are.rise c) (are'.rise c) (are.least others are'.closed c) (are'.least colours are.closed c)

up_to_both : (c d e f : ℕ) → IsUpTo c d e f → IsUpTo e f c d → (c ≡ e) × (d ≡ f)
up_to_both c d e f (inl below) (inl above) = absurd (omega arith)
up_to_both c d e f (inl below) (inr above) = absurd (let same = above.0 in omega arith)
up_to_both c d e f (inr below) (inl above) = absurd (let same = below.0 in omega arith)
up_to_both c d e f (inr below) (inr above) = (below.0, (let low = below.1 in let high = above.1 in omega arith))

-- the first refused pair is one
pub same_first : (net : Network) (allow : List Allowed) (colours others : ℕ → List ℕ) (c d e f : ℕ) → AreColours net colours → AreColours net others → IsFirstRefused colours allow c d → IsFirstRefused others allow e f
    → (c ≡ e) × (d ≡ f)
same_first net allow colours others c d e f are are' first first' =
    let here = are'.least colours are.closed e f first'.is_pair in
    let there = are.least others are'.closed c d first.is_pair in
    up_to_both c d e f (first.first e f here first'.refused) (first'.first c d there first.refused)
