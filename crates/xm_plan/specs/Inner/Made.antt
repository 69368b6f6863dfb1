-- Inner: signals made one after another. No public clause cites these.
use Rattle.std.specs.Prelude.{◌≡◌, ◌≢◌, ℕ, ◌<◌, Bool, false, List, [], ◌∷◌, Some, length, slice_get, take}
use Rattle.xm_design.specs.declared.tasks.Task.{Task}
use Rattle.xm_model.specs.Component.{Component, Content}
use Rattle.xm_model.specs.Signals.{Signals}
use Rattle.xm_model.specs.declared.state.Choice.{Choice}
use Rattle.xm_order.specs.Settle.{ChangesOnly, Same}
use Rattle.xm_order.specs.declared.signal.Signal.{Signal}
use Rattle.xm_plan.specs.Inner.Operations.{MayStay, all_tasks, prim_of, signals_made}
use Rattle.xm_plan.specs.Schedule.{IsMadeFrom}
use Rattle.xm_plan.specs.Shown.{AreShown, IsShown}
use Rattle.xm_plan.specs.declared.operation.Operation.{Operation}

-- one signal was made, and no other has changed
pub record IsStep (m : Component) (s : Content) (w : Choice) (φ ψ : Signals) (σ : Signal) : Type 0 where
  pub value : IsMadeFrom m s w φ ψ σ
  pub only : ChangesOnly φ ψ σ

-- these signals of a primitive were made, one after another
abbrev pub AreMade : Component → Content → Choice → Signals → List Signal → Signals → Type 0
AreMade m s w φ [] ψ = φ ≡ ψ
AreMade m s w φ (σ ∷ σs) ψ = (χ : Signals) × (IsStep m s w φ χ σ × AreMade m s w χ σs ψ)

-- the operation's were
abbrev pub IsDone : List Component → (ℕ → Content) → (ℕ → Choice) → Signals → Operation → Signals → Type 0
IsDone prims s w φ op ψ =
    (m : Component) → slice_get prims (prim_of op) ≡ Some m →
    AreMade m (s (prim_of op)) (w (prim_of op)) φ (signals_made op) ψ

-- the first n tasks are settled, and the signals of none of them are as they were in φ
pub record AreSettledTo (prims : List Component) (s : ℕ → Content) (w : ℕ → Choice) (tasks : List Task) (φ : Signals)
    (n : ℕ) (ψ : Signals) : Type 0 where
  pub settled : (k : ℕ) (task : Task) (m : Component) → k < n → slice_get tasks k ≡ Some task →
      slice_get prims task.prim ≡ Some m → IsMadeFrom m (s task.prim) (w task.prim) ψ ψ task.signal
  pub others : (σ : Signal) → ((k : ℕ) (task : Task) → k < n → slice_get tasks k ≡ Some task → task.signal ≢ σ) →
      Same φ ψ σ

-- where the operation's signals stay, they show what its primitive holds
abbrev pub IsLeft : List Component → (ℕ → Content) → List Bool → Signals → Operation → Type 0
IsLeft prims s changed φ op =
    (m : Component) → slice_get prims (prim_of op) ≡ Some m → slice_get changed (prim_of op) ≡ Some false →
    MayStay op → IsShown m (s (prim_of op)) φ

-- where the tasks of the first operations were settled, those up to another operation are
abbrev pub SettlesOn : List Component → (ℕ → Content) → (ℕ → Choice) → List Bool → List Operation → ℕ → Signals →
    ℕ → Signals → Type 0
SettlesOn prims s w changed ops from ψ to χ =
    (φ : Signals) → AreShown prims s changed φ →
    AreSettledTo prims s w (all_tasks ops) φ (length (all_tasks (take from ops))) ψ →
    AreSettledTo prims s w (all_tasks ops) φ (length (all_tasks (take to ops))) χ
