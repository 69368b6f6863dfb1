-- Inner: channels that are grouped by labels, each the least channel of its group. No public clause cites these.
use Rattle.std.specs.Prelude.{◌≡◌, ℕ, ◌<◌, ◌≤◌, false, nat_eq, Bool, Option, Some, None}
use Rattle.xm_model.specs.Component.{Component, Source, Sink, Queue, Function, Fork, Join, Switch, Merge}
use Rattle.xm_model.specs.Net.{HasPrim, Network}
use Rattle.xm_parts.specs.Partition.{IsPort, Linked, is_queue}
use Rattle.xm_parts.specs.declared.islands_of.Trio.{Trio}

-- channels with one label are linked, and a label is a channel of its group, the least
pub record IsGrouped (net : Network) (f : ℕ → ℕ) : Type 0 where
  pub linked : (c d : ℕ) → c < net.channels → d < net.channels → f c ≡ f d → Linked net c d
  pub below : (c : ℕ) → c < net.channels → f c ≤ c
  pub own : (c : ℕ) → c < net.channels → f (f c) ≡ f c

-- channels that had one label have one
abbrev pub Keeps : ℕ → (ℕ → ℕ) → (ℕ → ℕ) → Type 0
Keeps n f g = (c d : ℕ) → c < n → d < n → f c ≡ f d → g c ≡ g d

-- the channels of a primitive that is no queue
abbrev pub three_ports : Component → Option Trio
three_ports (Source out colours mode) = Some (record { x = out; y = out; z = out })
three_ports (Sink input mode) = Some (record { x = input; y = input; z = input })
three_ports (Queue input out capacity initial) = None
three_ports (Function input out table) = Some (record { x = input; y = out; z = out })
three_ports (Fork input a b table_a table_b) = Some (record { x = input; y = a; z = b })
three_ports (Join a b out pass) = Some (record { x = a; y = b; z = out })
three_ports (Switch input a b to_a) = Some (record { x = input; y = a; z = b })
three_ports (Merge a b out) = Some (record { x = a; y = b; z = out })

-- a channel that is the label of its group
abbrev pub is_least : (ℕ → ℕ) → ℕ → Bool
is_least f c = nat_eq (f c) c

-- the channels of primitive i have one label, unless it is a queue
abbrev pub JoinedAt : Network → (ℕ → ℕ) → ℕ → Type 0
JoinedAt net f i = (m : Component) (c d : ℕ) → HasPrim net i m → is_queue m ≡ false → IsPort m c → IsPort m d →
    f c ≡ f d
