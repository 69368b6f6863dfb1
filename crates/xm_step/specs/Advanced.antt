-- One cell past a cycle.
use Rattle.std.specs.Prelude.{◌≡◌, nat_lt, length}
use Rattle.xm_model.specs.Component.{Component, Queue, content_of}
use Rattle.xm_model.specs.Next.{content_after}
use Rattle.xm_model.specs.Signals.{Signals}
use Rattle.xm_model.specs.declared.state.Cell.{Cell}
use Rattle.xm_model.specs.declared.state.Cell.TheVariants as cell
use Rattle.xm_step.specs.Roomy.{IsRoomyCell, room_in}

-- a queue with no free place is not ready
abbrev pub IsGuarded : Component → Cell → Signals → Type 0
IsGuarded (Queue input _ capacity _) (cell.Packets packets) φ = φ.ready input ≡ nat_lt (length packets.items) capacity
IsGuarded _ _ _ = Unit {0}

-- the cell went on by the cycle
pub record IsAdvanced (m : Component) (old new : Cell) (φ : Signals) : Type 0 where
  pub content : content_of new ≡ content_after m (content_of old) φ
  pub roomy : IsRoomyCell m new
  pub room : room_in m new ≡ room_in m old
