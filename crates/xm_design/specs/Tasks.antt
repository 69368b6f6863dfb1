-- Signals, each with the primitive that makes it.
use Rattle.std.specs.Prelude.{◌≡◌, ℕ, List, All, map}
use Rattle.xm_design.specs.declared.tasks.Task.{Task}
use Rattle.xm_model.specs.Net.{Network}
use Rattle.xm_model.specs.Ports.{IsInitiator, IsTarget}
use Rattle.xm_order.specs.declared.signal.Signal.{Signal}
use Rattle.xm_order.specs.declared.signal.Signal.TheVariants as signal

-- the primitive offers on the signal's channel, or takes from it
abbrev pub Makes : Network → ℕ → Signal → Type 0
Makes net p (signal.Offer c) = IsInitiator net p c
Makes net p (signal.Ready c) = IsTarget net p c

abbrev pub made_signals : List Task → List Signal
made_signals tasks = map (λ (task : Task). task.signal) tasks

-- these signals, one after another, each with the primitive that makes it
pub record AreTasks (net : Network) (signals : List Signal) (tasks : List Task) : Type 0 where
  pub listed : made_signals tasks ≡ signals
  pub made : All (λ (task : Task). Makes net task.prim task.signal) tasks
