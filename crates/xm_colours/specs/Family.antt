-- Which colours a channel may have: the least closed family of colour sets.
use Rattle.std.specs.Prelude.{◌≡◌, ℕ, ◌<◌, true, false, List, [], ◌∷◌, slice_index, slice_index_or}
use Rattle.xm_model.specs.Component.{Component, Fork, Function, Join, Merge, Queue, Sink, Source, Switch}
use Rattle.xm_model.specs.Net.{HasPrim, Network}
use Rattle.xm_model.specs.Membership.{IsIn}
use Rattle.xm_model.specs.Signals.{at_side, takes_a}

-- the first colours are all among the second
abbrev pub Within : List ℕ → List ℕ → Type 0
Within ds es = (d : ℕ) → IsIn ds d → IsIn es d

-- the sets are closed at one primitive: what comes in on its inputs, and what it begins with, is in its outputs' sets
abbrev pub Closed : (ℕ → List ℕ) → Component → Type 0
Closed colours (Source out cs mode) = Within cs (colours out)
Closed colours (Sink input mode) = Unit {0}
Closed colours (Queue input out capacity initial) = Within (colours input) (colours out) × Within initial (colours out)
Closed colours (Function input out table) = (d : ℕ) → IsIn (colours input) d → IsIn (colours out) (slice_index table d)
Closed colours (Fork input a b ta tb) =
    ((d : ℕ) → IsIn (colours input) d → IsIn (colours a) (slice_index ta d))
    × ((d : ℕ) → IsIn (colours input) d → IsIn (colours b) (slice_index tb d))
Closed colours (Join a b out pass) = Within (colours (at_side pass a b)) (colours out)
Closed colours (Switch input a b to_a) =
    ((d : ℕ) → IsIn (colours input) d → takes_a to_a d ≡ true → IsIn (colours a) d)
    × ((d : ℕ) → IsIn (colours input) d → takes_a to_a d ≡ false → IsIn (colours b) d)
Closed colours (Merge a b out) = Within (colours a) (colours out) × Within (colours b) (colours out)

-- and at each of the net
abbrev pub IsClosed : Network → (ℕ → List ℕ) → Type 0
IsClosed net colours = (i : ℕ) (p : Component) → HasPrim net i p → Closed colours p

-- contained in every closed family
abbrev pub IsLeast : Network → (ℕ → List ℕ) → Type 0
IsLeast net colours = (family : ℕ → List ℕ) → IsClosed net family → (c : ℕ) → Within (colours c) (family c)

-- each is greater than the one before
abbrev pub Rises : List ℕ → Type 0
Rises [] = Unit {0}
Rises (x ∷ []) = Unit {0}
Rises (x ∷ y ∷ ys) = (x < y) × Rises (y ∷ ys)

-- the least closed family, each set in colour order
pub record AreColours (net : Network) (colours : ℕ → List ℕ) : Type 0 where
  pub closed : IsClosed net colours
  pub least : IsLeast net colours
  pub rise : (c : ℕ) → Rises (colours c)

-- the colours of channel c, where the sets are listed by channel
abbrev pub colours_at : List (List ℕ) → ℕ → List ℕ
colours_at sets c = slice_index_or sets c []
