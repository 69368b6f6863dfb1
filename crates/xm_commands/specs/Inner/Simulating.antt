-- Inner: a simulation, what is known of what it reads, and of the snapshots that it took.
use Rattle.std.specs.Prelude.{◌≡◌, ◌≤◌, ◌<◌, ℕ, List, Some, length, map, slice_get}
use Rattle.xm_commands.specs.Output.{AreInvariants, AreSnapCycles}
use Rattle.xm_commands.specs.declared.command.Simulation.{Simulation}
use Rattle.xm_design.specs.Designed.{Designed}
use Rattle.xm_flow.specs.ValidLemma.{Lemma}
use Rattle.xm_model.specs.Component.{Content, content_of}
use Rattle.xm_model.specs.Naming.{Naming}
use Rattle.xm_model.specs.Net.{Network}
use Rattle.xm_model.specs.Signals.{Signals}
use Rattle.xm_parts.specs.declared.row.Snapshot.{Snapshot}
use Rattle.xm_report.specs.Invariants.{invariant_lines}
use Rattle.xm_tape.specs.Taped.{Taped, cycles_of}
use Rattle.xm_trace.specs.Runs.{IsRunOf}
use Rattle.xm_work.specs.Simulating.{cycle_of}

-- it has as many parts and workers as it may have
abbrev pub IsShared : Simulation → Type 0
IsShared it = (1 ≤ it.parts) × (it.parts ≤ 64) × (it.workers ≤ 64)

-- the text is the lines of the invariants of the design
pub record AreInvariantLines (names : Naming) (design : Designed) (text : List ℕ) : Type 0 where
  pub lemmas : List Lemma
  pub invariants : AreInvariants design lemmas
  pub same : text ≡ invariant_lines names design lemmas

-- the cells of each snapshot are those of the states at its cycle
abbrev pub AreShown : Network → (ℕ → ℕ → Content) → List Snapshot → Type 0
AreShown net s snapshots = (i : ℕ) (it : Snapshot) → slice_get snapshots i ≡ Some it → (q : ℕ) → q < length net.prims
    → slice_get (map content_of it.state.cells.items) q ≡ Some (s it.cycle q)

-- so many snapshots were taken of the run of the tape
pub record AreTaken (net : Network) (tape : Taped) (watch : ℕ) (snapshots : List Snapshot) : Type 0 where
  pub cycles : AreSnapCycles watch (cycles_of tape) (map cycle_of snapshots)
  pub shown : (s : ℕ → ℕ → Content) (φ : ℕ → Signals) → IsRunOf net tape s φ → AreShown net s snapshots
