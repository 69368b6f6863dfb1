-- Which primitive a queue pair belongs to, as a walk over the primitives finds it.
use Rattle.std.specs.Prelude.{◌≡◌, ℕ, ◌+◌, ◌*◌, ◌<◌, ◌≤◌, length, take}
use Rattle.xm_colours.specs.Family.{colours_at}
use Rattle.xm_colours.specs.Pairs.{queue_pairs, queue_pairs_at}
use Rattle.xm_design.specs.Designed.{Designed}
use Rattle.xm_model.specs.Component.{Component}
use Rattle.xm_model.specs.Net.{HasPrim}

-- so many queue pairs stand below those of primitive p
pub record IsReached (it : Designed) (p below : ℕ) : Type 0 where
  pub within : p ≤ length it.net.prims
  pub number : below ≡ length (queue_pairs (colours_at it.colours) 0 (take p it.net.prims))
  pub few : below ≤ 64 * p

-- the j-th queue pair is one of primitive p's
pub record HasPair (it : Designed) (p below j : ℕ) : Type 0 where
  pub reached : IsReached it p below
  pub inside : p < length it.net.prims
  pub low : below ≤ j
  pub high : (m : Component) → HasPrim it.net p m → j < below + length (queue_pairs_at (colours_at it.colours) p m)
