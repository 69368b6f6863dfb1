-- The first fault of labels that are given.
use Rattle.std.specs.Prelude.{◌≡◌, ◌≢◌, ◌&&◌, ℕ, suc, ◌<◌, ◌≤◌, Bool, true, false, nat_eq, List, length}
use Rattle.xm_model.specs.Component.{Component, Source, Sink, Queue, Function, Fork, Join, Switch, Merge}
use Rattle.xm_model.specs.Net.{HasPrim, Network}
use Rattle.xm_parts.specs.Kept.{label_at}
use Rattle.xm_parts.specs.Partition.{IsPort, is_queue}

-- the primitive is a queue, or its channels have one label
abbrev pub IsTogether : (ℕ → ℕ) → Component → Type 0
IsTogether label m = is_queue m ≡ false → (c d : ℕ) → IsPort m c → IsPort m d → label c ≡ label d

-- two channels of a primitive that is no queue have two labels
pub record IsSplit (label : ℕ → ℕ) (m : Component) : Type 0 where
  pub no_queue : is_queue m ≡ false
  pub one : ℕ
  pub two : ℕ
  pub is_one : IsPort m one
  pub is_two : IsPort m two
  pub differ : label one ≢ label two

-- channel c has the first label above 63
pub record IsFirstLarge (labels : List ℕ) (c : ℕ) : Type 0 where
  pub within : c < length labels
  pub large : 64 ≤ label_at labels c
  pub before : (d : ℕ) → d < c → label_at labels d < 64

-- primitive i is the first whose channels have two labels
pub record IsFirstSplit (net : Network) (label : ℕ → ℕ) (i : ℕ) : Type 0 where
  pub prim : Component
  pub has : HasPrim net i prim
  pub split : IsSplit label prim
  pub before : (j : ℕ) (m : Component) → j < i → HasPrim net j m → IsTogether label m

-- the number of parts: one more than the greatest label
pub record IsCount (labels : List ℕ) (count : ℕ) : Type 0 where
  pub below : (c : ℕ) → c < length labels → label_at labels c < count
  pub reached : (c : ℕ) × (c < length labels) × (suc (label_at labels c) ≡ count)

-- a primitive that is no queue has one label
abbrev pub one_label : (ℕ → ℕ) → Component → Bool
one_label label (Source out colours mode) = true
one_label label (Sink input mode) = true
one_label label (Queue input out capacity initial) = true
one_label label (Function input out table) = nat_eq (label input) (label out)
one_label label (Fork input a b table_a table_b) = nat_eq (label input) (label a) && nat_eq (label input) (label b)
one_label label (Join a b out pass) = nat_eq (label a) (label b) && nat_eq (label a) (label out)
one_label label (Switch input a b to_a) = nat_eq (label input) (label a) && nat_eq (label input) (label b)
one_label label (Merge a b out) = nat_eq (label a) (label b) && nat_eq (label a) (label out)
