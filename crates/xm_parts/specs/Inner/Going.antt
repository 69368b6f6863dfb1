-- Inner: how the cells of a part's row go on. No public clause cites these.
use Rattle.std.specs.Prelude.{◌≡◌, ◌<◌, ℕ, false, List, length, Some, slice_get}
use Rattle.xm_model.specs.Component.{Component, Queue, content_of}
use Rattle.xm_model.specs.Next.{content_after, move}
use Rattle.xm_model.specs.Signals.{Signals, packets_in}
use Rattle.xm_model.specs.declared.state.Cell.{Cell}
use Rattle.xm_parts.specs.Partition.{IsPort, is_queue}
use Rattle.xm_parts.specs.Rows.{cell_in, prim_in}
use Rattle.xm_parts.specs.declared.row.PrimCell.{PrimCell}
use Rattle.xm_step.specs.Roomy.{IsRoomyCell}

-- a queue into which something moves has fewer packets than its capacity
abbrev pub HasPlace : Component → Cell → Signals → Type 0
HasPlace (Queue input out capacity initial) x φ = (d : ℕ) → move φ input ≡ Some d →
    length (packets_in (content_of x)) < capacity
HasPlace _ x φ = Unit {0}

-- one cell holds what the other does after the cycle
pub record HasGone (m : Component) (from to : Cell) (φ : Signals) : Type 0 where
  pub content : content_of to ≡ content_after m (content_of from) φ
  pub roomy : IsRoomyCell m to

-- each primitive's cell went on from one row to the other, and both rows are of the same primitives
pub record AllGoOn (ms : List Component) (from before after : List PrimCell) (φ : Signals) : Type 0 where
  pub whole : length after ≡ length before
  pub prims : (k : ℕ) → prim_in after k ≡ prim_in before k
  pub gone : (k : ℕ) (m : Component) → slice_get ms k ≡ Some m → HasGone m (cell_in from k) (cell_in after k) φ

-- the cells of both rows have room, and a queue into which something moves has a place
pub record CanGoOn (ms : List Component) (from before : List PrimCell) (φ : Signals) (n : ℕ) : Type 0 where
  pub from_whole : length from ≡ length ms
  pub before_whole : length before ≡ length ms
  pub from_roomy : (k : ℕ) (m : Component) → slice_get ms k ≡ Some m → IsRoomyCell m (cell_in from k)
  pub before_roomy : (k : ℕ) (m : Component) → slice_get ms k ≡ Some m → IsRoomyCell m (cell_in before k)
  pub has_place : (k : ℕ) (m : Component) → slice_get ms k ≡ Some m → HasPlace m (cell_in from k) φ
  pub own : (k : ℕ) (m : Component) → slice_get ms k ≡ Some m → is_queue m ≡ false → (c : ℕ) → IsPort m c → c < n
