-- Inner: all the signals that have a property, in a list. No public clause cites this.
use Rattle.std.specs.Prelude.{◌≡◌, ℕ, List, Some, slice_get}
use Rattle.xm_order.specs.declared.signal.Signal.{Signal}

-- the signals that have it, and no others
pub record ListsAll (P : Signal → Type 0) (signals : List Signal) : Type 0 where
  pub each : (k : ℕ) (σ : Signal) → slice_get signals k ≡ Some σ → P σ
  pub whole : (σ : Signal) → P σ → (k : ℕ) × (slice_get signals k ≡ Some σ)
