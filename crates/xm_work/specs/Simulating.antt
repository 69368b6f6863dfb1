-- A simulation: the board over the parts of a net, and the text of its run.
use Rattle.std.specs.Prelude.{◌≡◌, ◌⊎◌, ℕ, suc, ◌<◌, ◌≤◌, List, length, map}
use Rattle.xm_board.specs.Core.{IsFloor}
use Rattle.xm_board.specs.Run.{Boarded, IsNamed, RunName}
use Rattle.xm_model.specs.Component.{Content, content_of}
use Rattle.xm_model.specs.Naming.{naming_of}
use Rattle.xm_model.specs.Net.{Network}
use Rattle.xm_model.specs.Signals.{Signals}
use Rattle.xm_parts.specs.Gluing.{HoldsAll}
use Rattle.xm_parts.specs.declared.row.Snapshot.{Snapshot}
use Rattle.xm_tape.specs.Taped.{Taped, cycles_of}
use Rattle.xm_trace.specs.Rounds.{HasHadRun}
use Rattle.xm_trace.specs.RunTextState.{IsNamedBy, RunTextState}
use Rattle.xm_trace.specs.Runs.{IsRunOf}
use Rattle.xm_trace.specs.Text.{cycle_line}
use Rattle.xm_work.specs.declared.simulation.Whole.{Whole}

-- the run that its board names
abbrev pub run_of : Whole → RunName
run_of w = record { net = w.design.now.net; tape = w.tape.now; labels = w.parts.now.labels }

-- the snapshot is the state and the frame of the whole net, in the run of the tape at the snapshot's cycle
pub record IsSnapshotOf (net : Network) (tape : Taped) (it : Snapshot) : Type 0 where
  pub cells : length it.state.cells.items ≡ length net.prims
  pub wires : length it.frame.wires.items ≡ net.channels
  pub holds : (s : ℕ → ℕ → Content) (φ : ℕ → Signals) → IsRunOf net tape s φ →
      HoldsAll net (s it.cycle) (φ it.cycle) (map content_of it.state.cells.items) it.frame.wires.items

abbrev pub is_snapshot_of : Whole → Snapshot → Type 0
is_snapshot_of w it = IsSnapshotOf w.design.now.net w.tape.now it

abbrev pub cycle_of : Snapshot → ℕ
cycle_of it = it.cycle

-- the function gives the line of each cycle of the run
pub record AreLines (w : Whole) (line : ℕ → List ℕ) : Type 0 where
  pub states : ℕ → ℕ → Content
  pub frames : ℕ → Signals
  pub named : IsNamed (run_of w) states frames
  pub each : (t : ℕ) → line t ≡ cycle_line (naming_of w.names.now) frames t

-- what is simulated, how far its board is, the board's floor, how much of the text was made, and the text that was
-- made last
pub record Simulating : Type 0 where
  pub whole : Whole
  pub board : Boarded
  pub floor : ℕ
  pub text : RunTextState
  pub lines : List ℕ

-- the board is that of the run, and the text was made up to the round, or to its end
pub record IsSimulating (it : Simulating) : Type 0 where
  pub run : it.board.run ≡ run_of it.whole
  pub floor_is : IsFloor it.board.core it.floor
  pub within : it.board.core.target < cycles_of it.whole.tape.now
  pub begun : it.board.core.first ≤ it.board.core.target
  pub named : IsNamedBy it.text (naming_of it.whole.names.now)
  pub colours : it.text.colours ≡ it.whole.design.now.net.colours
  pub channels : it.text.channels ≡ it.whole.design.now.net.channels
  pub had : HasHadRun it.whole.design.now.net it.whole.tape.now it.text
  pub told : (it.text.cycles ≡ it.board.core.first) ⊎ (it.text.cycles ≡ suc it.board.core.target)
