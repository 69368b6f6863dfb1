-- Inner: rows one after another in one list, as a tape keeps them.
use Rattle.std.specs.Prelude.{◌≡◌, ℕ, zero, suc, ◌+◌, ◌-◌, ◌*◌, ◌%◌, ◌<◌, ◌≤◌, ◌^◌, List, [], ◌∷◌, ◌++◌, ◌==◌, length, take, drop, nat_lt, if◌then◌else◌, Result}
use Rattle.xm_model.specs.Component.{Component}
use Rattle.xm_model.specs.Limits.{most_primitives}
use Rattle.xm_model.specs.Steps.{◌>>=◌, check}
use Rattle.xm_model.specs.declared.state.Choice.{Choice}
use Rattle.xm_tape.specs.Fault.{Fault, row_length}
use Rattle.xm_tape.specs.Marks.{marks_from}
use Rattle.xm_tape.specs.Sizes.{most_cycles}
use Rattle.xm_tape.specs.Taped.{Taped}

-- so many rows of one width
abbrev pub rows_at : ℕ → ℕ → List Choice → List (List Choice)
rows_at width zero flat = []
rows_at width (suc n) flat = take width flat ∷ rows_at width n (drop width flat)

-- what stands behind the old items
abbrev pub added : List Choice → List Choice → List Choice
added old new = drop (length old) new

-- the old items stand in front
abbrev pub IsLonger : List Choice → List Choice → Type 0
IsLonger old new = new ≡ old ++ added old new

-- a row for these sources and sinks
abbrev pub row_of : List Component → ℕ → List ℕ → Result (List Choice) Fault
row_of oracles t text = do
  _ ← check (length text == length oracles) (row_length t (length text))
  marks_from t 0 oracles text

-- the tape that such a list holds: the rows of the stem, and then those of the cycle
abbrev pub taped : List Choice → ℕ → ℕ → ℕ → ℕ → Taped
taped flat width stem cycle times =
    record { stem = rows_at width stem flat; cycle = rows_at width cycle (drop (stem * width) flat); times = times }

-- where the row of cycle t stands among the rows of stem and cycle
abbrev pub row_kept : ℕ → ℕ → ℕ → ℕ
row_kept stem cycle t = if nat_lt t stem then t else stem + (t - stem) % cycle

-- what a tape keeps of its list and its counts
pub record IsKept (flat : List Choice) (width stem cycle times : ℕ) : Type 0 where
  pub whole : length flat ≡ (stem + cycle) * width
  pub narrow : width ≤ most_primitives
  pub counted : stem + cycle < 2 ^ 32
  pub few : stem + times * cycle ≤ most_cycles
