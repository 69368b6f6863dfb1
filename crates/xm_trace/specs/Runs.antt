-- The run of a tape.
use Rattle.std.specs.Prelude.{◌≡◌, ℕ, List}
use Rattle.xm_model.specs.Component.{Content}
use Rattle.xm_model.specs.Views.{content_at}
use Rattle.xm_model.specs.Net.{Network}
use Rattle.xm_model.specs.Run.{IsRun}
use Rattle.xm_model.specs.Signals.{Signals}
use Rattle.xm_model.specs.declared.state.Cell.{Cell}
use Rattle.xm_tape.specs.Taped.{Taped, chosen, cycles_of, rows_of}
use Rattle.xm_trace.specs.Moves.{round_moves}
use Rattle.xm_trace.specs.declared.trace.Move.{Move}

-- the states and frames of the tape's cycles
abbrev pub IsRunOf : Network → Taped → (ℕ → ℕ → Content) → (ℕ → Signals) → Type 0
IsRunOf net tape s φ = IsRun net (cycles_of tape) (chosen net.prims (rows_of tape)) s φ

-- the cells are those of the tape's run after so many cycles
abbrev pub AreCellsAt : Network → Taped → ℕ → List Cell → Type 0
AreCellsAt net tape t cells =
    (s : ℕ → ℕ → Content) (φ : ℕ → Signals) → IsRunOf net tape s φ → (p : ℕ) → content_at cells p ≡ s t p

-- the moves are those of so many cycles of the tape's run, from a cycle on
abbrev pub AreMovesFrom : Network → Taped → ℕ → ℕ → List Move → Type 0
AreMovesFrom net tape from n moves =
    (s : ℕ → ℕ → Content) (φ : ℕ → Signals) → IsRunOf net tape s φ → moves ≡ round_moves φ net.channels from n

-- the moves are those of the tape's run
pub record AreMovesOfRun (net : Network) (tape : Taped) (moves : List Move) : Type 0 where
  pub states : ℕ → ℕ → Content
  pub frames : ℕ → Signals
  pub run : IsRunOf net tape states frames
  pub same : moves ≡ round_moves frames net.channels 0 (cycles_of tape)
