-- Inner: how far a depth-first walk has come that goes from each signal to those on which it depends. No public
-- clause cites these.
use Rattle.std.specs.Prelude.{◌≡◌, ℕ, suc, ◌+◌, ◌*◌, ◌<◌, ◌≤◌, List, Some, length, slice_get, slice_index_or, sum_by}
use Rattle.xm_model.specs.Net.{Network}
use Rattle.xm_order.specs.Dependence.{Depends}
use Rattle.xm_order.specs.Loop.{rank}
use Rattle.xm_order.specs.declared.signal.Signal.{Signal}
use Rattle.xm_order.specs.declared.walk.Progress.{Progress}
use Rattle.xm_order.specs.declared.walk.Progress.TheVariants.{Unseen, OnPath, Done}
use Rattle.xm_order.specs.declared.walk.Walk.{Walk}

-- the progress of each signal stands in the order offer 0, ready 0, offer 1, and so on
abbrev pub HasProgress : List Progress → Signal → Progress → Type 0
HasProgress progress σ reached = slice_get progress (rank σ) ≡ Some reached

-- the list has the signals that have come so far, each once
pub record HoldsAt (progress : List Progress) (reached : Progress) (signals : List Signal) : Type 0 where
  pub each : (k : ℕ) (σ : Signal) → slice_get signals k ≡ Some σ → HasProgress progress σ reached
  pub listed : (σ : Signal) → HasProgress progress σ reached → (k : ℕ) × (slice_get signals k ≡ Some σ)
  pub once : (j k : ℕ) (σ : Signal) → slice_get signals j ≡ Some σ → slice_get signals k ≡ Some σ → j ≡ k

-- the steps that are left for a signal
abbrev pub steps_left : Progress → ℕ
steps_left Unseen = 2
steps_left OnPath = 1
steps_left Done = 0

-- the steps that are left for all
abbrev pub all_left : List Progress → ℕ
all_left progress = sum_by steps_left progress

-- those that are done stand after all on which they depend, each of the path depends on the next, and the path
-- has no more signals than steps were made
pub record IsWalkOver (net : Network) (done path : List Signal) (progress : List Progress) : Type 0 where
  pub whole : length progress ≡ 2 * net.channels
  pub is_done : HoldsAt progress Done done
  pub on_path : HoldsAt progress OnPath path
  pub after : (k : ℕ) (σ τ : Signal) → slice_get done k ≡ Some σ → Depends net σ τ →
      (j : ℕ) × ((j < k) × (slice_get done j ≡ Some τ))
  pub next : (k : ℕ) (σ τ : Signal) → slice_get path k ≡ Some σ → slice_get path (suc k) ≡ Some τ → Depends net σ τ
  pub short : length path + all_left progress ≤ 4 * net.channels

abbrev pub IsWalk : Network → Walk → Type 0
IsWalk net walk = IsWalkOver net walk.done.items walk.path.items walk.progress.items

-- no signal has more steps left than before
pub record Advances (before after : List Progress) : Type 0 where
  pub at : (i : ℕ) → steps_left (slice_index_or after i Done) ≤ steps_left (slice_index_or before i Done)
