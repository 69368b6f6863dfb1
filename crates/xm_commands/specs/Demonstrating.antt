-- What `demo` prints: what is counted of the run of a document that is drawn.
use Rattle.std.specs.List.{list_any}
use Rattle.std.specs.Option.{option_map_or}
use Rattle.std.specs.Prelude.{◌≡◌, ℕ, zero, suc, ◌+◌, Bool, true, false, if◌then◌else◌, List, length, slice_get, Ok}
use Rattle.xm_commands.specs.Output.{IsDesignOf}
use Rattle.xm_design.specs.Designed.{Designed}
use Rattle.xm_generate.specs.Generated.{generated}
use Rattle.xm_model.specs.Component.{Component, Content, Sink}
use Rattle.xm_model.specs.Net.{Network, targets}
use Rattle.xm_model.specs.Run.{moves}
use Rattle.xm_model.specs.Signals.{Signals}
use Rattle.xm_report.specs.Demo.{demo_text}
use Rattle.xm_report.specs.declared.demo.RunCounts.{RunCounts}
use Rattle.xm_tape.specs.Reading.{tape_in}
use Rattle.xm_tape.specs.Taped.{Taped, cycles_of}
use Rattle.xm_trace.specs.Runs.{IsRunOf}

-- the sum of what a function gives for the numbers below n
abbrev pub sum_below : (ℕ → ℕ) → ℕ → ℕ
sum_below f zero = 0
sum_below f (suc n) = sum_below f n + f n

abbrev pub is_sink : Component → Bool
is_sink (Sink input mode) = true
is_sink _ = false

-- the channel's target is a sink
abbrev pub enters_sink : Network → ℕ → Bool
enters_sink net c = list_any (λ p. option_map_or is_sink (slice_get net.prims p) false) (targets net.prims c)

-- how many moves the first cycles have on channel c, of all colours
abbrev pub moves_on : Network → (ℕ → Signals) → ℕ → ℕ → ℕ
moves_on net φ cycles c = sum_below (λ d. moves φ c d cycles) net.colours

-- on all channels
abbrev pub all_moves : Network → (ℕ → Signals) → ℕ → ℕ
all_moves net φ cycles = sum_below (moves_on net φ cycles) net.channels

-- and on those whose target is a sink
abbrev pub delivered_moves : Network → (ℕ → Signals) → ℕ → ℕ
delivered_moves net φ cycles =
    sum_below (λ c. if enters_sink net c then moves_on net φ cycles c else 0) net.channels

-- what is counted of a run with these frames
abbrev pub run_counts : Network → (ℕ → Signals) → ℕ → RunCounts
run_counts net φ cycles = record {
  primitives = length net.prims;
  channels = net.channels;
  cycles = cycles;
  moves = all_moves net φ cycles;
  delivered = delivered_moves net φ cycles;
}

-- the text is of what is counted of the run of the tape, of the document of this size and seed
pub record IsDemonstration (size seed : ℕ) (text : List ℕ) : Type 0 where
  pub design : Designed
  pub is_design : IsDesignOf (generated size seed) design
  pub tape : Taped
  pub taped : tape_in (generated size seed).net (generated size seed).tape ≡ Ok tape
  pub states : ℕ → ℕ → Content
  pub frames : ℕ → Signals
  pub run : IsRunOf (generated size seed).net tape states frames
  pub same : text ≡ demo_text size seed (run_counts (generated size seed).net frames (cycles_of tape))
