-- Lemmas: lists of colours that rise.
use Rattle.std.specs.Prelude.{ℕ, ◌<◌, List, [], ◌∷◌}
use Rattle.std.proofs.Common.{arith, inl, inr}
use Rattle.xm_colours.specs.Family.{Rises}
use Rattle.xm_model.specs.Membership.{IsIn}

-- what comes later is greater
pub above : (x : ℕ) (ys : List ℕ) → Rises (x ∷ ys) → (d : ℕ) → IsIn ys d → x < d
above x [] rise d inside = absurd inside
above x (y ∷ ys) rise d (inl same) = let low = rise.0 in omega arith
above x (y ∷ ys) rise d (inr rest) = let low = rise.0 in let further = above y ys rise.1 d rest in omega arith

pub rises_on : (x : ℕ) (ys : List ℕ) → Rises (x ∷ ys) → Rises ys
rises_on x [] rise = tt
rises_on x (y ∷ ys) rise = rise.1
