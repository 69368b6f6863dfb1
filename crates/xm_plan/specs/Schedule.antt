-- Tasks over primitives whose ports are places: an order in which each can be done, and what is done by them.
use Rattle.std.specs.Prelude.{◌≡◌, ◌≢◌, ℕ, ◌<◌, ◌⊎◌, List, Some, slice_get}
use Rattle.xm_design.specs.declared.tasks.Task.{Task}
use Rattle.xm_model.specs.Component.{Component, Content}
use Rattle.xm_model.specs.Ports.{HasInput, HasOutput}
use Rattle.xm_model.specs.Signals.{Signals}
use Rattle.xm_model.specs.declared.state.Choice.{Choice}
use Rattle.xm_order.specs.Dependence.{Needs}
use Rattle.xm_order.specs.Settle.{Same}
use Rattle.xm_order.specs.Sides.{offer_side, ready_side}
use Rattle.xm_order.specs.declared.signal.Signal.{Signal}
use Rattle.xm_order.specs.declared.signal.Signal.TheVariants as signal

-- each port of the primitives is at one of so many places
abbrev pub ArePlaced : List Component → ℕ → Type 0
ArePlaced prims places =
    (p : ℕ) (m : Component) (c : ℕ) → slice_get prims p ≡ Some m → HasOutput m c ⊎ HasInput m c → c < places

-- the primitive offers at the signal's place, or takes from it
abbrev pub IsMaker : Component → Signal → Type 0
IsMaker m (signal.Offer c) = HasOutput m c
IsMaker m (signal.Ready c) = HasInput m c

-- the task's primitive is one of the list, and makes its signal
pub record HasMaker (prims : List Component) (task : Task) : Type 0 where
  pub prim : Component
  pub has : slice_get prims task.prim ≡ Some prim
  pub maker : IsMaker prim task.signal

-- each signal is made once, by a primitive that makes it, and one that it needs is made before it or by no task
pub record IsSchedule (prims : List Component) (tasks : List Task) : Type 0 where
  pub made : (k : ℕ) (task : Task) → slice_get tasks k ≡ Some task → HasMaker prims task
  pub once : (j k : ℕ) (first second : Task) → slice_get tasks j ≡ Some first → slice_get tasks k ≡ Some second →
      first.signal ≡ second.signal → j ≡ k
  pub after : (j k : ℕ) (first second : Task) (m : Component) → slice_get tasks j ≡ Some first →
      slice_get tasks k ≡ Some second → slice_get prims second.prim ≡ Some m → Needs m second.signal first.signal →
      j < k

-- the signal has in ψ the value that the primitive's equation gives it from φ
abbrev pub IsMadeFrom : Component → Content → Choice → Signals → Signals → Signal → Type 0
IsMadeFrom m s w φ ψ (signal.Offer c) = ψ.offer c ≡ offer_side m s w φ c
IsMadeFrom m s w φ ψ (signal.Ready c) = ψ.ready c ≡ ready_side m s w φ c

-- each task's signal has the value that its primitive's equation gives it
abbrev pub AreSettled : List Component → (ℕ → Content) → (ℕ → Choice) → List Task → Signals → Type 0
AreSettled prims s w tasks φ =
    (k : ℕ) (task : Task) (m : Component) → slice_get tasks k ≡ Some task → slice_get prims task.prim ≡ Some m →
    IsMadeFrom m (s task.prim) (w task.prim) φ φ task.signal

-- the signals of no task are the same in both
abbrev pub LeavesOthers : List Task → Signals → Signals → Type 0
LeavesOthers tasks φ ψ =
    (σ : Signal) → ((k : ℕ) (task : Task) → slice_get tasks k ≡ Some task → task.signal ≢ σ) → Same φ ψ σ

-- the same tasks, in whatever order
pub record SameTasks (xs ys : List Task) : Type 0 where
  pub to : (k : ℕ) (task : Task) → slice_get xs k ≡ Some task → (j : ℕ) × (slice_get ys j ≡ Some task)
  pub from : (k : ℕ) (task : Task) → slice_get ys k ≡ Some task → (j : ℕ) × (slice_get xs j ≡ Some task)
