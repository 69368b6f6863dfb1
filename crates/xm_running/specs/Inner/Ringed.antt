-- Inner: packets in a ring of places. No public clause cites these.
use Rattle.std.specs.Prelude.{ℕ, ◌<◌, ◌≤◌, ◌^◌, List, ◌++◌, drop, length, take}
use Rattle.xm_model.specs.ListView.{ListView}
use Rattle.xm_running.specs.declared.ring.Ring.TheInside.{Inside}

-- the n places from `head` on, past the last one from the first on
abbrev pub window : ℕ → ℕ → List ℕ → List ℕ
window head n places = take n (drop head places ++ take head places)

abbrev pub packets_of : Inside → ListView ℕ
packets_of ring = record { items = window ring.head ring.len ring.places.items; room = length ring.places.items }

-- the head is one of the places, and there are not too many
pub record IsRinged (ring : Inside) : Type 0 where
  pub head : ring.head < length ring.places.items
  pub within : ring.len ≤ length ring.places.items
  pub few : length ring.places.items < 2 ^ 32
