-- Inner: the document that was drawn, the totals of its run, and what is counted of them.
use Rattle.serde_json.specs.View.{view}
use Rattle.std.specs.Prelude.{◌≡◌, ℕ, if◌then◌else◌, List, option_map}
use Rattle.xm_commands.specs.Demonstrating.{enters_sink}
use Rattle.xm_commands.specs.Output.{IsDesignOf}
use Rattle.xm_commands.specs.declared.prepared.Prepared.{Prepared}
use Rattle.xm_generate.specs.Generated.{generated}
use Rattle.xm_model.specs.Component.{Content}
use Rattle.xm_model.specs.Naming.{IsNamed, naming_of}
use Rattle.xm_model.specs.Net.{Network}
use Rattle.xm_model.specs.Run.{moves}
use Rattle.xm_model.specs.Signals.{Signals}
use Rattle.xm_tape.specs.Taped.{Taped, cycles_of}
use Rattle.xm_trace.specs.RunTextState.{totals_of}
use Rattle.xm_trace.specs.Runs.{IsRunOf}
use Rattle.xm_trace.specs.declared.run_text.Total.{Total}

-- the totals are those of the tape's run
pub record AreTotals (net : Network) (tape : Taped) (totals : List Total) : Type 0 where
  pub states : ℕ → ℕ → Content
  pub frames : ℕ → Signals
  pub run : IsRunOf net tape states frames
  pub same : totals ≡ totals_of (λ c d. moves frames c d (cycles_of tape)) net.colours net.channels

abbrev pub count_of : Total → ℕ
count_of it = it.count

-- the moves of a total, where they went into a sink
abbrev pub delivered_by : Network → Total → ℕ
delivered_by net it = if enters_sink net it.channel then it.count else 0

-- what was prepared is the document of this size and seed
pub record IsGenerated (size seed : ℕ) (it : Prepared) : Type 0 where
  pub design : IsDesignOf (generated size seed) it.design
  pub tape : option_map view it.tape ≡ (generated size seed).tape
  pub named : IsNamed it.design.net (naming_of it.names)
