-- How far a depth-first walk has come.
use Rattle.std.specs.List.{range_with_len}
use Rattle.std.specs.Prelude.{◌≡◌, ℕ, ◌+◌, ◌-◌, ◌*◌, ◌<◌, List, [], ◌∷◌, ◌++◌, Bool, true}
use Rattle.std.specs.Prelude.{cond, length, reverse, slice_index_or, sum_by, All, Option, Some, None}
use Rattle.xm_model.specs.Membership.{IsIn}
use Rattle.xm_model.specs.Net.{Network}
use Rattle.xm_search.specs.Walk.{Walks}
use Rattle.xm_search.specs.declared.walk.Walk.{Walk}

-- marked are the channels that are seen; past the last channel nothing is unmarked
pub record AreMarks (seen : List ℕ) (marks : List Bool) : Type 0 where
  pub known : (c : ℕ) → c < length marks → slice_index_or marks c true ≡ true → IsIn seen c
  pub marked : (c : ℕ) → IsIn seen c → slice_index_or marks c true ≡ true

-- the first channel that is not marked
abbrev pub first_unmarked : List Bool → List ℕ → Option ℕ
first_unmarked marks [] = None
first_unmarked marks (c ∷ cs) = cond (slice_index_or marks c true) (first_unmarked marks cs) (Some c)

-- what is left to do where the walk stands at the first of these channels, which was entered from the second, and so
-- on: the channels that come next behind each are visited, and it is left
abbrev pub Finishes : (ℕ → List ℕ) → List ℕ → List ℕ → List ℕ → List ℕ → Type 0
Finishes next seen [] left after = (left ≡ []) × (after ≡ seen)
Finishes next seen (c ∷ path) left after = (inner : List ℕ) × ((between : List ℕ) × ((rest : List ℕ) ×
    (Walks next seen (next c) inner between × (Finishes next between path rest after × (left ≡ inner ++ c ∷ rest)))))

abbrev pub unmarked : List Bool → ℕ
unmarked marks = sum_by (λ b. cond b 0 1) marks

-- the steps that are left at most
abbrev pub steps_left : Walk → ℕ
steps_left walk = 2 * unmarked walk.seen.items + length walk.path.items

-- marks for all channels, and a path of channels
pub record IsOver (net : Network) (walk : Walk) : Type 0 where
  pub whole : length walk.seen.items ≡ net.channels
  pub path : All (λ c. c < net.channels) walk.path.items

-- the walk is under way from a root: what it left so far, and then what is left to do, is a walk from the root
pub record IsUnderWay (next : ℕ → List ℕ) (before : List ℕ) (root : ℕ) (old : List ℕ) (walk : Walk) : Type 0 where
  pub seen : List ℕ
  pub made : List ℕ
  pub marks : AreMarks seen walk.seen.items
  pub left : walk.left.items ≡ old ++ made
  pub ends : (rest after : List ℕ) → Finishes next seen (reverse walk.path.items) rest after →
      Walks next before (root ∷ []) (made ++ rest) after

-- the walk from the root is done
pub record IsWalked (next : ℕ → List ℕ) (before : List ℕ) (root : ℕ) (old : List ℕ) (walk : Walk) : Type 0 where
  pub after : List ℕ
  pub made : List ℕ
  pub marks : AreMarks after walk.seen.items
  pub left : walk.left.items ≡ old ++ made
  pub walks : Walks next before (root ∷ []) made after

-- the channels below c are walked: what they left, and then what a walk from each channel from c on leaves, is a walk
-- from each of all n channels
pub record IsPartWay (next : ℕ → List ℕ) (n c : ℕ) (walk : Walk) : Type 0 where
  pub seen : List ℕ
  pub marks : AreMarks seen walk.seen.items
  pub ends : (rest after : List ℕ) → Walks next seen (range_with_len c (n - c)) rest after →
      Walks next [] (range_with_len 0 n) (walk.left.items ++ rest) after
