-- How often each colour moves on each channel, in a list of moves.
use Rattle.std.specs.Prelude.{◌≡◌, ℕ, ◌+◌, ◌*◌, ◌<◌, List, [], ◌∷◌, ◌&&◌, cond, length, nat_eq, slice_index}
use Rattle.xm_trace.specs.declared.trace.Move.{Move}

-- how many of the moves are of colour d on channel c
abbrev pub sum_in : List Move → ℕ → ℕ → ℕ
sum_in [] c d = 0
sum_in (m ∷ ms) c d = cond (nat_eq m.channel c && nat_eq m.colour d) 1 0 + sum_in ms c d

-- the sum of colour d on channel c, in a list that has so many colours for each channel
abbrev pub sum_at : List ℕ → ℕ → ℕ → ℕ → ℕ
sum_at sums colours c d = slice_index sums (c * colours + d)

-- these are the sums of the moves
pub record AreSums (channels colours : ℕ) (moves : List Move) (sums : List ℕ) : Type 0 where
  pub whole : length sums ≡ channels * colours
  pub same : (c d : ℕ) → c < channels → d < colours → sum_at sums colours c d ≡ sum_in moves c d
