-- A part goes on by itself: what it has one cycle on depends on what it has, on what moves on the far sides of
-- its cut queues, and on the choices.
use Rattle.std.specs.Prelude.{◌≡◌, ℕ, List, Option}
use Rattle.xm_model.specs.Frame.{IsFrame}
use Rattle.xm_model.specs.Net.{IsNet, Network}
use Rattle.xm_model.specs.Next.{next}
use Rattle.xm_model.specs.Signals.{Signals}
use Rattle.xm_model.specs.declared.state.Choice.{Choice}
use Rattle.xm_order.specs.Dependence.{IsOrder}
use Rattle.xm_order.specs.declared.signal.Signal.{Signal}
use Rattle.xm_parts.specs.Partition.{IsPartition}
use Rattle.xm_parts.specs.Projection.{IsCycle, Row, projection}

-- the row is that of part p one cycle on, under these choices
pub record IsAfter (net : Network) (label : ℕ → ℕ) (p : ℕ) (row : Row) (far : List (Option ℕ)) (w : ℕ → Choice)
    (after : Row) : Type 0 where
  pub cycle : IsCycle net label p row far
  pub frame : Signals
  pub is_frame : IsFrame net (next net cycle.state cycle.frame) w frame
  pub after_is : after ≡ projection net label p (next net cycle.state cycle.frame) frame

abbrev pub PartLaw : Type 0
PartLaw =
    (net : Network) (signals : List Signal) (label : ℕ → ℕ) (p : ℕ) (row : Row) (far : List (Option ℕ))
    (w : ℕ → Choice) (one two : Row) →
    IsNet net → IsOrder net signals → IsPartition net label → IsAfter net label p row far w one →
    IsAfter net label p row far w two → one ≡ two
