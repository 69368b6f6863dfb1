-- Inner: sets of colours as words of 64 bits, where bit d says that colour d is in. No public clause cites these.
use Rattle.std.specs.Prelude.{ℕ, zero, suc, ◌-◌, ◌==◌, Bool, cond, List, [], ◌∷◌, ◌++◌, length, map, sum_by}
use Rattle.std.specs.Int.{bit_at}
use Rattle.xm_colours.specs.Family.{colours_at}
use Rattle.xm_model.specs.Membership.{IsIn}

-- the word's set has colour d
abbrev pub holds : ℕ → ℕ → Bool
holds word d = bit_at word d == 1

-- the colours below n that are in, rising
abbrev pub set_below : ℕ → ℕ → List ℕ
set_below word zero = []
set_below word (suc n) = set_below word n ++ cond (holds word n) (n ∷ []) []

-- all that are in
unfoldable pub set_of : ℕ → List ℕ
set_of word = set_below word 64

abbrev pub sets_of : List ℕ → List (List ℕ)
sets_of words = map set_of words

-- channel c has colour d
abbrev pub Has : List ℕ → ℕ → ℕ → Type 0
Has words c d = IsIn (colours_at (sets_of words) c) d

-- how many pairs the sets lack
abbrev pub lacking : List ℕ → ℕ
lacking words = sum_by (λ word. 64 - length (set_of word)) words
