-- A net whose colours and order are known, and why a net has none.
use Rattle.std.specs.Prelude.{◌≡◌, ℕ, List, length}
use Rattle.xm_colours.specs.Allowing.{AllowsAll, IsFirstRefused}
use Rattle.xm_colours.specs.Family.{AreColours, colours_at}
use Rattle.xm_model.specs.Naming.{Allowed}
use Rattle.xm_model.specs.Net.{IsNet, Network}
use Rattle.xm_order.specs.Dependence.{IsOrder}
use Rattle.xm_order.specs.Loop.{IsLoop}
use Rattle.xm_order.specs.declared.signal.Signal.{Signal}

-- the net, the colours of each channel, and all signals, each after those on which it depends
pub record Designed : Type 0 where
  pub net : Network
  pub colours : List (List ℕ)
  pub order : List Signal

-- net, colours and order agree
pub record IsDesigned (it : Designed) : Type 0 where
  pub net : IsNet it.net
  pub colours : AreColours it.net (colours_at it.colours)
  pub whole : length it.colours ≡ it.net.channels
  pub order : IsOrder it.net it.order

-- the first pair that the list refuses
pub record IsColourRefused (net : Network) (allow : List Allowed) (c d : ℕ) : Type 0 where
  pub colours : ℕ → List ℕ
  pub are_colours : AreColours net colours
  pub first : IsFirstRefused colours allow c d

-- the list refuses no pair, and the signals are a loop of the dependence
pub record IsLoopRefused (net : Network) (allow : List Allowed) (loop : List Signal) : Type 0 where
  pub colours : ℕ → List ℕ
  pub are_colours : AreColours net colours
  pub allowed : AllowsAll colours allow
  pub looped : IsLoop net loop
