-- The moves on the far sides of a part's cut queues, set from one neighbour after another.
use Rattle.std.specs.Prelude.{◌≡◌, ◌≢◌, ℕ, List, length, map, Option, Some, slice_get}
use Rattle.xm_model.specs.Net.{Network}
use Rattle.xm_model.specs.Next.{move}
use Rattle.xm_model.specs.Signals.{Signals}
use Rattle.xm_model.specs.declared.state.Wire.{Wire}
use Rattle.xm_parts.specs.Partition.{AreNeighbours, channels_in, cuts_in, far_at}
use Rattle.xm_parts.specs.Projection.{far_moves, wire_of}

-- queue number k of those cut from part p has its far channel c in part q
pub record IsCutTo (net : Network) (label : ℕ → ℕ) (p q k c : ℕ) : Type 0 where
  pub queue : ℕ
  pub stands : slice_get (cuts_in net label p) k ≡ Some queue
  pub far : far_at net label p queue ≡ Some c
  pub lies : label c ≡ q

-- the moves on the far channels in part q are those of this frame
abbrev pub AreFarFrom : Network → (ℕ → ℕ) → ℕ → ℕ → Signals → List (Option ℕ) → Type 0
AreFarFrom net label p q φ moves = (k c : ℕ) → IsCutTo net label p q k c → slice_get moves k ≡ Some (move φ c)

-- they are set from what part q has of a frame, and those in other parts stay
pub record SetFrom (net : Network) (label : ℕ → ℕ) (p q : ℕ) (wires : List Wire)
    (old new : List (Option ℕ)) : Type 0 where
  pub whole : length new ≡ length old
  pub here : (φ : Signals) → wires ≡ map (wire_of φ) (channels_in net label q) → AreFarFrom net label p q φ new
  pub rest : (r k c : ℕ) → IsCutTo net label p r k c → r ≢ q → slice_get new k ≡ slice_get old k

-- once they are set from every neighbour's part of one frame, they are the far moves of that frame
abbrev pub FarLaw : Type 0
FarLaw =
    (net : Network) (label : ℕ → ℕ) (p : ℕ) (φ : Signals) (moves : List (Option ℕ)) →
    length moves ≡ length (cuts_in net label p) →
    ((q : ℕ) → AreNeighbours net label p q → AreFarFrom net label p q φ moves) → moves ≡ far_moves net label p φ
