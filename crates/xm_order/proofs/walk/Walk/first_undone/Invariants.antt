use Rattle.std.proofs.Common.{◌≡◌, ℕ, ◌<◌, Some, slice_get}
use Rattle.xm_order.specs.Inner.Walk.{HasProgress}
use Rattle.xm_order.specs.declared.signal.Signal.{Signal}
use Rattle.xm_order.specs.declared.walk.Progress.TheVariants.{Done}
use Rattle.xm_order.proofs.walk.Walk.first_undone.Given as goal

abbrev pub invariant-loop-need : goal.invariant-loop-need
invariant-loop-need l = (k : ℕ) (τ : Signal) → k < l.need-index → slice_get l.needs k ≡ Some τ → HasProgress l.self.progress.items τ Done
