-- Inner: lists that are built one number after another for a part. No public clause cites these.
use Rattle.std.specs.Prelude.{◌≡◌, ℕ, ◌<◌, cond, List, filter, length, take, Some, slice_get, slice_index}
use Rattle.xm_model.specs.Component.{Component}
use Rattle.xm_model.specs.Net.{HasPrim, Network}
use Rattle.xm_parts.specs.Kept.{IsTask, channel_place, label_at, lies_at, renamed}
use Rattle.xm_parts.specs.Partition.{far_at, is_cut, lies_in, touches_at}
use Rattle.xm_parts.specs.Passing.{passing}
use Rattle.xm_order.specs.declared.signal.Signal.{Signal}
use Rattle.xm_order.specs.declared.signal.Signal.TheVariants as signal
use Rattle.xm_parts.specs.declared.part.Cut.{Cut}
use Rattle.xm_design.specs.declared.tasks.Task.{Task}

-- for each channel, its place among those of its part
pub record ArePlaces (labels places : List ℕ) : Type 0 where
  pub whole : length places ≡ length labels
  pub at : (c : ℕ) → c < length labels → slice_get places c
      ≡ Some (channel_place (label_at labels) (label_at labels c) c)

-- where a port stands, read from the places, with that of a far channel
abbrev pub port_read : (ℕ → ℕ) → List ℕ → ℕ → ℕ → ℕ → ℕ
port_read label places p far c = cond (lies_in label p c) (slice_index places c) far

-- what is kept of the first primitives
pub record AreRenamedTo (net : Network) (label : ℕ → ℕ) (p : ℕ) (r : ℕ → ℕ → ℕ) (n : ℕ)
    (locals : List Component) : Type 0 where
  pub whole : length locals ≡ length (passing (touches_at net label p) n)
  pub each : (k i : ℕ) (m : Component) → slice_get (passing (touches_at net label p) n) k ≡ Some i → HasPrim net i m →
      slice_get locals k ≡ Some (renamed (r i) m)

pub record AreCutsTo (net : Network) (label : ℕ → ℕ) (p n : ℕ) (cuts : List Cut) : Type 0 where
  pub whole : length cuts ≡ length (passing (is_cut net label p) n)
  pub each : (k i c : ℕ) (cut : Cut) → slice_get (passing (is_cut net label p) n) k ≡ Some i →
      far_at net label p i ≡ Some c → slice_get cuts k ≡ Some cut →
      (cut.part ≡ label c) × (cut.wire ≡ channel_place label (label c) c)

-- a signal by the place that is read for its channel
abbrev pub signal_read : List ℕ → Signal → Signal
signal_read places (signal.Offer c) = signal.Offer (slice_index places c)
signal_read places (signal.Ready c) = signal.Ready (slice_index places c)

pub record AreTasksTo (net : Network) (order : List Signal) (label : ℕ → ℕ) (p n : ℕ) (tasks : List Task) : Type 0 where
  pub whole : length tasks ≡ length (filter (lies_at label p) (take n order))
  pub each : (k : ℕ) (σ : Signal) (task : Task) → slice_get (filter (lies_at label p) (take n order)) k ≡ Some σ →
      slice_get tasks k ≡ Some task → IsTask net label p σ task
