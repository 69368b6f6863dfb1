-- The run that a board names, and the rows of its parts.
use Rattle.std.specs.Prelude.{◌≡◌, ℕ, suc, ◌+◌, ◌<◌, ◌↔◌, true, List, Some, length, slice_get}
use Rattle.xm_board.specs.Core.{Core, cycle, is_near, started}
use Rattle.xm_model.specs.Component.{Content}
use Rattle.xm_model.specs.Net.{Network}
use Rattle.xm_model.specs.Signals.{Signals}
use Rattle.xm_parts.specs.Changing.{IsChange}
use Rattle.xm_parts.specs.Kept.{label_at}
use Rattle.xm_parts.specs.Partition.{AreNeighbours}
use Rattle.xm_parts.specs.Projection.{Row, projection}
use Rattle.xm_parts.specs.declared.changes.Change.{Change}
use Rattle.xm_tape.specs.Taped.{Taped}
use Rattle.xm_trace.specs.Runs.{IsRunOf}

-- a net, the choices of a tape, and the label of each channel's part
pub record RunName : Type 0 where
  pub net : Network
  pub tape : Taped
  pub labels : List ℕ

-- a part, and the cycle of the run that it leaves
pub record JobName : Type 0 where
  pub run : RunName
  pub part : ℕ
  pub cycle : ℕ

-- a run, and how far each part of it is
pub record Boarded : Type 0 where
  pub run : RunName
  pub core : Core

-- the states and the frames are those of the run
abbrev pub IsNamed : RunName → (ℕ → ℕ → Content) → (ℕ → Signals) → Type 0
IsNamed run s φ = IsRunOf run.net run.tape s φ

-- what part p has of cycle t
abbrev pub row_at : RunName → (ℕ → ℕ → Content) → (ℕ → Signals) → ℕ → ℕ → Row
row_at run s φ p t = projection run.net (label_at run.labels) p (s t) (φ t)

-- what differs in each cycle of part p, from the floor to its own
pub record AreChanges (b : Boarded) (p floor : ℕ) (changes : List Change) : Type 0 where
  pub whole : length changes + floor ≡ cycle b.core p
  pub each : (k : ℕ) (c : Change) → slice_get changes k ≡ Some c → (s : ℕ → ℕ → Content) (φ : ℕ → Signals) →
      IsNamed b.run s φ → IsChange (row_at b.run s φ p (floor + k)) (row_at b.run s φ p (floor + suc k)) c

-- so many parts at cycle 0 in a first round up to the target, each with the parts with which it shares a queue
pub record IsStart (run : RunName) (count target : ℕ) (c : Core) : Type 0 where
  pub neighbours : List (List ℕ)
  pub whole : length neighbours ≡ count
  pub core_is : c ≡ started neighbours target
  pub near : (p q : ℕ) → p < count → (is_near c p q ≡ true) ↔ AreNeighbours run.net (label_at run.labels) p q
