-- A tape: the choices of a run, cycle by cycle.
use Rattle.std.specs.Prelude.{ℕ, zero, suc, ◌+◌, ◌*◌, List, [], ◌++◌, length, slice_index_or}
use Rattle.xm_model.specs.Component.{Component}
use Rattle.xm_model.specs.Views.{choice_at}
use Rattle.xm_model.specs.Net.{Network}
use Rattle.xm_model.specs.Run.{TapeFits}
use Rattle.xm_model.specs.declared.state.Choice.{Choice}

-- A row has one choice for each source and sink, in primitive order. The rows of the stem come once, and those of the
-- cycle, one after another, so many times.
pub record Taped : Type 0 where
  pub stem : List (List Choice)
  pub cycle : List (List Choice)
  pub times : ℕ

abbrev pub repeated : ℕ → List (List Choice) → List (List Choice)
repeated zero rows = []
repeated (suc n) rows = rows ++ repeated n rows

-- the rows of the run
abbrev pub rows_of : Taped → List (List Choice)
rows_of tape = tape.stem ++ repeated tape.times tape.cycle

-- how many they are
abbrev pub cycles_of : Taped → ℕ
cycles_of tape = length tape.stem + tape.times * length tape.cycle

-- what is chosen in cycle t for primitive p
abbrev pub chosen : List Component → List (List Choice) → ℕ → ℕ → Choice
chosen prims rows t p = choice_at prims (slice_index_or rows t []) p

-- the choices of sources are of their lists, and those of sinks readiness
abbrev pub Fits : Network → Taped → Type 0
Fits net tape = TapeFits net (cycles_of tape) (chosen net.prims (rows_of tape))
