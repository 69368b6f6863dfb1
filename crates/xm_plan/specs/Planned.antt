-- What a plan is for.
use Rattle.std.specs.Prelude.{ℕ, List, slice_get, slice_index}
use Rattle.xm_design.specs.declared.tasks.Task.{Task}
use Rattle.xm_model.specs.Component.{Component}
use Rattle.xm_model.specs.Views.{choice_or}
use Rattle.xm_model.specs.declared.state.Choice.{Choice}

-- primitives whose ports are places, how many places there are, where the choice of each primitive stands in a row,
-- and the tasks that are done in each cycle
pub record Planned : Type 0 where
  pub prims : List Component
  pub places : ℕ
  pub choices : List ℕ
  pub tasks : List Task

-- the choice for primitive p
abbrev pub choice_for : List ℕ → List Choice → ℕ → Choice
choice_for choices row p = choice_or (slice_get row (slice_index choices p))
