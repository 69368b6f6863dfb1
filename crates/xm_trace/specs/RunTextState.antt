-- What a text that is made round by round has had.
use Rattle.std.specs.Prelude.{◌≡◌, ℕ, zero, suc, ◌+◌, ◌*◌, ◌^◌, ◌<◌, ◌≤◌, List, [], ◌∷◌, ◌++◌, length}
use Rattle.xm_model.specs.Naming.{Naming}
use Rattle.xm_model.specs.Run.{moves}
use Rattle.xm_model.specs.Signals.{Signals}
use Rattle.xm_model.specs.Limits.{most_channels, most_colours}
use Rattle.xm_trace.specs.Moves.{round_moves}
use Rattle.xm_trace.specs.Sums.{sum_at}
use Rattle.xm_trace.specs.declared.run_text.Total.{Total}
use Rattle.xm_trace.specs.declared.trace.Move.{Move}

-- how many cycles, of how many channels and colours, and the sum of each colour on each channel
pub record RunTextState : Type 0 where
  pub cycles : ℕ
  pub channels : ℕ
  pub colours : ℕ
  pub sums : List ℕ

-- it has had the first cycles of these frames
pub record HasHad (state : RunTextState) (φ : ℕ → Signals) : Type 0 where
  pub whole : length state.sums ≡ state.channels * state.colours
  pub sums : (c d : ℕ) → c < state.channels → d < state.colours →
      sum_at state.sums state.colours c d ≡ moves φ c d state.cycles

-- the moves are those of so many cycles of these frames that follow
pub record Follows (state : RunTextState) (φ : ℕ → Signals) (cycles : ℕ) (part : List Move) : Type 0 where
  pub had : HasHad state φ
  pub moves : part ≡ round_moves φ state.channels state.cycles cycles

-- of some frames, and all cycles together are below 2^32
pub record FollowsSome (state : RunTextState) (cycles : ℕ) (part : List Move) : Type 0 where
  pub frames : ℕ → Signals
  pub follows : Follows state frames cycles part
  pub few : state.cycles + cycles < 2 ^ 32

-- the names name each channel and colour
pub record IsNamedBy (state : RunTextState) (names : Naming) : Type 0 where
  pub channels : length names.channels ≡ state.channels
  pub colours : length names.colours ≡ state.colours
  pub few_channels : state.channels ≤ most_channels
  pub few_colours : state.colours ≤ most_colours

-- the pairs with moves, in pair order: of the first colours on channel c, and on the first channels
abbrev pub total_if : ℕ → ℕ → ℕ → List Total
total_if c d zero = []
total_if c d (suc n) = record { channel = c; colour = d; count = suc n } ∷ []

abbrev pub channel_totals : (ℕ → ℕ → ℕ) → ℕ → ℕ → List Total
channel_totals n c zero = []
channel_totals n c (suc d) = channel_totals n c d ++ total_if c d (n c d)

abbrev pub totals_of : (ℕ → ℕ → ℕ) → ℕ → ℕ → List Total
totals_of n colours zero = []
totals_of n colours (suc c) = totals_of n colours c ++ channel_totals n c colours
