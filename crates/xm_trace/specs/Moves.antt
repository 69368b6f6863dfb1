-- The moves of a run, by cycle and then channel.
use Rattle.std.specs.Prelude.{ℕ, zero, suc, ◌+◌, List, [], ◌∷◌, ◌++◌, Option, Some, None}
use Rattle.xm_model.specs.Next.{move}
use Rattle.xm_model.specs.Signals.{Signals}
use Rattle.xm_trace.specs.declared.trace.Move.{Move}

-- the move of a colour on channel c in cycle t, if there is one
abbrev pub moved_on : ℕ → ℕ → Option ℕ → List Move
moved_on t c None = []
moved_on t c (Some d) = record { cycle = t; channel = c; colour = d } ∷ []

-- the moves of cycle t on the first channels
abbrev pub cycle_moves : Signals → ℕ → ℕ → List Move
cycle_moves φ t zero = []
cycle_moves φ t (suc c) = cycle_moves φ t c ++ moved_on t c (move φ c)

-- the moves of so many cycles from a cycle on
abbrev pub round_moves : (ℕ → Signals) → ℕ → ℕ → ℕ → List Move
round_moves φ channels from zero = []
round_moves φ channels from (suc n) = round_moves φ channels from n ++ cycle_moves (φ (from + n)) (from + n) channels
