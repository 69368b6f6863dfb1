-- What holds of every generated document.
use Rattle.std.specs.Prelude.{◌≡◌, ℕ, ◌<◌, ◌≤◌, ◌^◌, List, Ok}
use Rattle.xm_colours.specs.Allowing.{AllowsAll}
use Rattle.xm_model.specs.Net.{Network}
use Rattle.xm_netlist.specs.Doc.{Doc}
use Rattle.xm_netlist.specs.Valid.{IsValid}
use Rattle.xm_order.specs.Dependence.{Depends}
use Rattle.xm_order.specs.Loop.{IsLoop}
use Rattle.xm_order.specs.declared.signal.Signal.{Signal}
use Rattle.xm_tape.specs.Reading.{tape_in}
use Rattle.xm_tape.specs.Taped.{Taped}
use Rattle.xm_generate.specs.Generated.{generated}

-- a rank for each signal, which falls along the dependence
pub record IsRanked (net : Network) : Type 0 where
  pub rank : Signal → ℕ
  pub falls : (σ τ : Signal) → Depends net σ τ → rank τ < rank σ

-- a net whose signals have such ranks has no loop
abbrev pub RanksEndLoops : Type 0
RanksEndLoops = (net : Network) (loop : List Signal) → IsRanked net → IsLoop net loop → ⊥

-- a document without a fault that reading, colouring or ordering it would find: it is valid, and so well wired; its
-- list of allowed colours refuses none; the dependence of its signals has no loop; and its tape is a tape for the net
pub record IsRunnable (doc : Doc) : Type 0 where
  pub valid : IsValid doc
  pub allowed : (colours : ℕ → List ℕ) → AllowsAll colours doc.allow
  pub ranked : IsRanked doc.net
  pub no_loop : (loop : List Signal) → IsLoop doc.net loop → ⊥
  pub taped : (tape : Taped) × (tape_in doc.net doc.tape ≡ Ok tape)

-- every size from 2 to 600 and every seed give such a document
abbrev pub GeneratedRuns : Type 0
GeneratedRuns = (size seed : ℕ) → 2 ≤ size → size ≤ 600 → seed < 2 ^ 64 → IsRunnable (generated size seed)
