-- How the rounds of a run go on, and what their lines make when they are joined.
use Rattle.std.specs.Prelude.{◌≡◌, ℕ, ◌+◌, ◌^◌, ◌<◌, List, ◌++◌}
use Rattle.xm_model.specs.Component.{Content}
use Rattle.xm_model.specs.Naming.{Naming}
use Rattle.xm_model.specs.Net.{IsNet, Network}
use Rattle.xm_model.specs.Signals.{Signals}
use Rattle.xm_model.specs.declared.state.Cell.{Cell}
use Rattle.xm_order.specs.Dependence.{IsOrder}
use Rattle.xm_order.specs.declared.signal.Signal.{Signal}
use Rattle.xm_step.specs.Roomy.{IsRoomy}
use Rattle.xm_tape.specs.Taped.{Taped}
use Rattle.xm_trace.specs.Runs.{AreCellsAt, AreMovesFrom, IsRunOf}
use Rattle.xm_trace.specs.Text.{round_lines}
use Rattle.xm_trace.specs.RunTextState.{FollowsSome, HasHad, RunTextState}
use Rattle.xm_trace.specs.declared.trace.Move.{Move}

-- the lines of two rounds, one after the other, are those of both in one
pub record RoundsJoin : Type 0 where
  pub joined : (names : Naming) (φ : ℕ → Signals) (from n m : ℕ) →
      round_lines names φ from (n + m) ≡ round_lines names φ from n ++ round_lines names φ (from + n) m

-- it has had the first cycles of the tape's run
abbrev pub HasHadRun : Network → Taped → RunTextState → Type 0
HasHadRun net tape state = (s : ℕ → ℕ → Content) (φ : ℕ → Signals) → IsRunOf net tape s φ → HasHad state φ

-- the moves of the next cycles of the tape's run follow
abbrev pub RoundsFollow : Type 0
RoundsFollow =
    (net : Network) (signals : List Signal) (tape : Taped) (state : RunTextState) (n : ℕ) (part : List Move) →
    IsNet net → IsOrder net signals → state.channels ≡ net.channels → HasHadRun net tape state →
    AreMovesFrom net tape state.cycles n part → state.cycles + n < 2 ^ 32 → FollowsSome state n part

-- the text and the cells are those of the tape's run after so many cycles as the text has had
pub record IsUnderway (net : Network) (tape : Taped) (text : RunTextState) (now : List Cell) : Type 0 where
  pub channels : text.channels ≡ net.channels
  pub had : HasHadRun net tape text
  pub cells : AreCellsAt net tape text.cycles now
  pub roomy : IsRoomy net.prims now
