-- Inner: how far the spread of colours has come. No public clause cites these.
use Rattle.std.specs.Prelude.{◌≡◌, ◌⊎◌, ℕ, ◌+◌, ◌*◌, ◌<◌, ◌≤◌, ◌==◌, cond, List, [], ◌∷◌, length, map, slice_index}
use Rattle.xm_colours.specs.Family.{IsLeast, colours_at}
use Rattle.xm_colours.specs.Inner.Words.{Has, lacking, sets_of}
use Rattle.xm_colours.specs.declared.pairs.Pair.{Pair}
use Rattle.xm_colours.specs.declared.spread.Spread.{Spread}
use Rattle.xm_model.specs.Component.{Component, Fork, Function, Join, Merge, Queue, Sink, Source, Switch}
use Rattle.xm_model.specs.Net.{HasPrim, Network}
use Rattle.xm_model.specs.Membership.{IsIn}
use Rattle.xm_model.specs.Ports.{HasInput}
use Rattle.xm_model.specs.Signals.{at_side, takes_a}

abbrev pub pair : ℕ → ℕ → Pair
pair c d = record { channel = c; colour = d }

-- what a primitive sends on for a pair that comes in on one of its inputs
abbrev pub sent : Component → Pair → List Pair
sent (Source _ _ _) it = []
sent (Sink _ _) it = []
sent (Queue _ out _ _) it = pair out it.colour ∷ []
sent (Function _ out table) it = pair out (slice_index table it.colour) ∷ []
sent (Fork _ a b table_a table_b) it =
    pair a (slice_index table_a it.colour) ∷ pair b (slice_index table_b it.colour) ∷ []
sent (Join a b out pass) it = cond (at_side pass a b == it.channel) (pair out it.colour ∷ []) []
sent (Switch _ a b to_a) it = cond (takes_a to_a it.colour) (pair a it.colour ∷ []) (pair b it.colour ∷ [])
sent (Merge _ _ out) it = pair out it.colour ∷ []

-- what is given by the primitive itself
abbrev pub given : Component → List Pair
given (Source out colours _) = map (pair out) colours
given (Queue _ out _ initial) = map (pair out) initial
given _ = []

-- its tables tell what becomes of the colour
abbrev pub Covers : Component → ℕ → Type 0
Covers (Function _ _ table) d = d < length table
Covers (Fork _ _ _ table_a table_b) d = (d < length table_a) × (d < length table_b)
Covers (Switch _ _ _ to_a) d = d < length to_a
Covers _ d = Unit {0}

-- each of these pairs is of the first n channels and of 64 colours
abbrev pub Fit : List Pair → ℕ → Type 0
Fit ps n = (it : Pair) → IsIn ps it → (it.channel < n) × (it.colour < 64)

-- the sets have each pair
abbrev pub HasAll : List ℕ → List Pair → Type 0
HasAll words ps = (it : Pair) → IsIn ps it → Has words it.channel it.colour

-- the pairs came to the sets, those that were new are pending, and nothing else changed
pub record AddsOver (ps : List Pair) (words : List ℕ) (pending : List Pair) (new_words : List ℕ)
    (new_pending : List Pair) : Type 0 where
  pub whole : length new_words ≡ length words
  pub kept : (c d : ℕ) → Has words c d → Has new_words c d
  pub added : HasAll new_words ps
  pub only : (c d : ℕ) → Has new_words c d → Has words c d ⊎ IsIn ps (pair c d)
  pub waits : (c d : ℕ) → Has new_words c d → Has words c d ⊎ IsIn new_pending (pair c d)
  pub still : (it : Pair) → IsIn pending it → IsIn new_pending it
  pub new : (it : Pair) → IsIn new_pending it → IsIn pending it ⊎ IsIn ps it
  pub same : lacking new_words + length new_pending ≡ lacking words + length pending

abbrev pub Adds : List Pair → Spread → Spread → Type 0
Adds ps before after = AddsOver ps before.words.items before.pending.items after.words.items after.pending.items

-- the pair went on through the primitive that takes it
abbrev pub IsPassed : Network → List ℕ → ℕ → ℕ → Type 0
IsPassed net words c d = (i : ℕ) (m : Component) → HasPrim net i m → HasInput m c → HasAll words (sent m (pair c d))

-- the sets lie within each closed family, and each of their pairs is pending or went on
pub record IsSpreadOver (net : Network) (words : List ℕ) (pending : List Pair) : Type 0 where
  pub whole : length words ≡ net.channels
  pub colours : (c d : ℕ) → Has words c d → d < net.colours
  pub least : IsLeast net (colours_at (sets_of words))
  pub has : HasAll words pending
  pub passed : (c d : ℕ) → Has words c d → IsIn pending (pair c d) ⊎ IsPassed net words c d
  pub short : lacking words + length pending ≤ 64 * net.channels

abbrev pub IsSpread : Network → Spread → Type 0
IsSpread net spread = IsSpreadOver net spread.words.items spread.pending.items

-- the sets have what each of the first primitives brings
abbrev pub HasGiven : Network → ℕ → List ℕ → Type 0
HasGiven net n words = (i : ℕ) (m : Component) → i < n → HasPrim net i m → HasAll words (given m)

abbrev pub work_left : Spread → ℕ
work_left spread = lacking spread.words.items + length spread.pending.items
