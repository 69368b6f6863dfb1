-- Partitions of a net's channels, and which primitives and channels a part has.
use Rattle.std.specs.Prelude.{◌≡◌, ◌⊎◌, ℕ, ◌<◌, Bool, true, false, ◌||◌, nat_eq, List, [], ◌∷◌, ◌++◌, length, Option, Some, None, is_some, slice_get}
use Rattle.xm_model.specs.Component.{Component, Source, Sink, Queue, Function, Fork, Join, Switch, Merge}
use Rattle.xm_model.specs.Net.{HasPrim, Network, inputs, outputs}
use Rattle.xm_model.specs.Ports.{HasInput, HasOutput}
use Rattle.xm_parts.specs.Passing.{passing}

abbrev pub is_queue : Component → Bool
is_queue (Source out colours mode) = false
is_queue (Sink input mode) = false
is_queue (Queue input out capacity initial) = true
is_queue (Function input out table) = false
is_queue (Fork input a b table_a table_b) = false
is_queue (Join a b out pass) = false
is_queue (Switch input a b to_a) = false
is_queue (Merge a b out) = false

-- the channel is at one of the primitive's ports
abbrev pub IsPort : Component → ℕ → Type 0
IsPort m c = HasOutput m c ⊎ HasInput m c

-- each channel has a label, and the channels of a primitive that is no queue have the same
pub record IsPartition (net : Network) (label : ℕ → ℕ) : Type 0 where
  pub together : (i : ℕ) (m : Component) (c d : ℕ) → HasPrim net i m → is_queue m ≡ false → IsPort m c → IsPort m d →
      label c ≡ label d

-- the channel lies in part p
abbrev pub lies_in : (ℕ → ℕ) → ℕ → ℕ → Bool
lies_in label p c = nat_eq (label c) p

abbrev pub some_lies_in : (ℕ → ℕ) → ℕ → List ℕ → Bool
some_lies_in label p [] = false
some_lies_in label p (c ∷ cs) = lies_in label p c || some_lies_in label p cs

-- primitive i has a channel in part p
abbrev pub touches : (ℕ → ℕ) → ℕ → Option Component → Bool
touches label p None = false
touches label p (Some m) = some_lies_in label p (inputs m ++ outputs m)

abbrev pub touches_at : Network → (ℕ → ℕ) → ℕ → ℕ → Bool
touches_at net label p i = touches label p (slice_get net.prims i)

-- the channels of part p, and its primitives: those that have a channel in it
abbrev pub channels_in : Network → (ℕ → ℕ) → ℕ → List ℕ
channels_in net label p = passing (lies_in label p) net.channels

abbrev pub prims_in : Network → (ℕ → ℕ) → ℕ → List ℕ
prims_in net label p = passing (touches_at net label p) (length net.prims)

-- of the two channels of a queue, the one outside part p, where the other lies in it
abbrev pub outer : Bool → Bool → ℕ → ℕ → Option ℕ
outer true true input out = None
outer true false input out = Some out
outer false true input out = Some input
outer false false input out = None

-- the far channel of a queue that is cut from part p
abbrev pub far_channel : (ℕ → ℕ) → ℕ → Option Component → Option ℕ
far_channel label p None = None
far_channel label p (Some (Source out colours mode)) = None
far_channel label p (Some (Sink input mode)) = None
far_channel label p (Some (Queue input out capacity initial)) = outer (lies_in label p input)
    (lies_in label p out) input out
far_channel label p (Some (Function input out table)) = None
far_channel label p (Some (Fork input a b table_a table_b)) = None
far_channel label p (Some (Join a b out pass)) = None
far_channel label p (Some (Switch input a b to_a)) = None
far_channel label p (Some (Merge a b out)) = None

abbrev pub far_at : Network → (ℕ → ℕ) → ℕ → ℕ → Option ℕ
far_at net label p i = far_channel label p (slice_get net.prims i)

-- the queues that part p shares with another part
abbrev pub is_cut : Network → (ℕ → ℕ) → ℕ → ℕ → Bool
is_cut net label p i = is_some (far_at net label p i)

abbrev pub cuts_in : Network → (ℕ → ℕ) → ℕ → List ℕ
cuts_in net label p = passing (is_cut net label p) (length net.prims)

-- a queue's one channel lies in part p and its other in part q
pub record AreNeighbours (net : Network) (label : ℕ → ℕ) (p q : ℕ) : Type 0 where
  pub queue : ℕ
  pub far : ℕ
  pub cut : far_at net label p queue ≡ Some far
  pub there : label far ≡ q

-- channels that a partition must keep together: steps from port to port of primitives that are no queues
pub data Linked (net : Network) : ℕ → ℕ → Type 0 where
  itself : {c : ℕ} → Linked net c c
  by : {c d e : ℕ} (i : ℕ) (m : Component) → HasPrim net i m → is_queue m ≡ false → IsPort m c → IsPort m d →
      Linked net d e → Linked net c e

-- each channel's island: the linked channels have one number, others have others, and the numbers first
-- come in order, with no gap
pub record AreIslands (net : Network) (island : ℕ → ℕ) : Type 0 where
  pub together : (c d : ℕ) → c < net.channels → d < net.channels → Linked net c d → island c ≡ island d
  pub apart : (c d : ℕ) → c < net.channels → d < net.channels → island c ≡ island d → Linked net c d
  pub in_order : (c j : ℕ) → c < net.channels → j < island c → (d : ℕ) × (d < c) × (island d ≡ j)
