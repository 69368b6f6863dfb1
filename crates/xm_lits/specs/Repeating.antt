-- Runs whose last part comes again, and what may be said of that part: its literals.
use Rattle.std.specs.Prelude.{◌≡◌, ◌≢◌, ◌⊎◌, ℕ, ◌+◌, ◌<◌, ◌≤◌, true, false, List, [], ◌∷◌, length, Option, Some, None}
use Rattle.std.specs.Prelude.{slice_get, is_some}
use Rattle.xm_lits.specs.declared.literal.Lit.{Lit}
use Rattle.xm_lits.specs.declared.literal.Lit.TheVariants.{Stuck, Dead, Idle, Full, Has, Lacks}
use Rattle.xm_model.specs.Component.{Component, Content, Sink, Source}
use Rattle.xm_model.specs.Net.{HasPrim, Network, capacity_of}
use Rattle.xm_model.specs.Run.{IsRun, TapeFits, count}
use Rattle.xm_model.specs.Signals.{Signals, packets_in}
use Rattle.xm_model.specs.declared.state.Choice.{Choice}
use Rattle.xm_model.specs.declared.primitive.SinkMode.{SinkMode}
use Rattle.xm_model.specs.declared.primitive.SourceMode.TheVariants as source_mode

-- a run of a stem and then a cycle: so many cycles each, with what is chosen, the states and the frames
pub record Repetition : Type 0 where
  pub stem : ℕ
  pub cycle : ℕ
  pub choices : ℕ → ℕ → Choice
  pub states : ℕ → ℕ → Content
  pub frames : ℕ → Signals

-- its choices fit, and the state after the stem comes again after the cycle, so the cycle can go on for ever
pub record IsRepeating (net : Network) (r : Repetition) : Type 0 where
  pub is_long : 0 < r.cycle
  pub choices : TapeFits net (r.stem + r.cycle) r.choices
  pub run : IsRun net (r.stem + r.cycle) r.choices r.states r.frames
  pub same : (i : ℕ) → r.states (r.stem + r.cycle) i ≡ r.states r.stem i

-- frame number t of the cycle
abbrev pub frame_at : Repetition → ℕ → Signals
frame_at r t = r.frames (r.stem + t)

-- every sink is ready in some frame of the cycle, and every fair source offers in some
pub record IsFair (net : Network) (r : Repetition) : Type 0 where
  pub sinks : (i input : ℕ) (mode : SinkMode) → HasPrim net i (Sink input mode)
      → (t : ℕ) × ((t < r.cycle) × ((frame_at r t).ready input ≡ true))
  pub sources : (i out : ℕ) (cs : List ℕ) → HasPrim net i (Source out cs source_mode.Fair)
      → (t : ℕ) × ((t < r.cycle) × (is_some ((frame_at r t).offer out) ≡ true))

-- the capacity of a queue, and 0 of anything else
abbrev pub capacity_at : Option Component → ℕ
capacity_at None = 0
capacity_at (Some m) = capacity_of m

-- what a literal says of the frames of the cycle, or of the packets in a queue as the cycle begins
abbrev pub Holds : Network → Repetition → Lit → Type 0
Holds net r (Stuck c) = (t : ℕ) → t < r.cycle → (frame_at r t).ready c ≡ false
Holds net r (Dead c d) =
    (t : ℕ) → t < r.cycle → ((frame_at r t).offer c ≡ Some d) × ((frame_at r t).ready c ≡ false)
Holds net r (Idle c d) = (t : ℕ) → t < r.cycle → (frame_at r t).offer c ≢ Some d
Holds net r (Full q) = length (packets_in (r.states r.stem q)) ≡ capacity_at (slice_get net.prims q)
Holds net r (Has q d) = 1 ≤ count (r.states r.stem) q d
Holds net r (Lacks q d) = count (r.states r.stem) q d ≡ 0

-- in every frame of the cycle the channel offers and is not ready
abbrev pub IsJammed : Repetition → ℕ → Type 0
IsJammed r c =
    (t : ℕ) → t < r.cycle → (is_some ((frame_at r t).offer c) ≡ true) × ((frame_at r t).ready c ≡ false)

-- each of the literals meets the predicate
abbrev pub AllOf : (Lit → Type 0) → List Lit → Type 0
AllOf H [] = Unit {0}
AllOf H (l ∷ ls) = H l × AllOf H ls

-- all literals of one of the alternatives meet it
abbrev pub SomeOf : (Lit → Type 0) → List (List Lit) → Type 0
SomeOf H [] = ⊥
SomeOf H (a ∷ others) = AllOf H a ⊎ SomeOf H others
