use Rattle.std.proofs.Common.{◌≡◌, ℕ, ◌<◌, ◌≤◌, Some, length, slice_get}
use Rattle.xm_order.specs.Loop.{rank}
use Rattle.xm_order.specs.declared.signal.Signal.{Signal}
use Rattle.xm_order.proofs.ring.least.Given as goal

abbrev pub invariant-loop-k : goal.invariant-loop-k
invariant-loop-k l = record {
  within : l.best < length l.ring;
  least : (j : ℕ) (σ τ : Signal) → j < l.k → slice_get l.ring l.best ≡ Some σ → slice_get l.ring j ≡ Some τ → rank σ ≤ rank τ;
}
