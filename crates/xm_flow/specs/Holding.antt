-- Flow rows and lemmas hold all through a run.
use Rattle.std.specs.Prelude.{◌≡◌, ℕ, ◌≤◌, List, length, map, slice_get, Option, Some, None, ℤ, pos, All}
use Rattle.xm_colours.specs.Family.{colours_at}
use Rattle.xm_colours.specs.Pairs.{pairs, queue_pairs}
use Rattle.xm_design.specs.Designed.{Designed, IsDesigned}
use Rattle.xm_model.specs.Component.{Content}
use Rattle.xm_model.specs.Run.{IsRun, TapeFits, count, moves}
use Rattle.xm_model.specs.Signals.{Signals}
use Rattle.xm_model.specs.declared.state.Choice.{Choice}
use Rattle.xm_rows.specs.Points.{Meets}
use Rattle.xm_rows.specs.Row.{SparseRow}
use Rattle.xm_flow.specs.FlowRows.{AreFlowRows, Column, Count, Flow, Moves, columns, count_of}
use Rattle.xm_flow.specs.ValidLemma.{IsValid, Lemma}

-- what a column counts in a state, after so many cycles
abbrev pub column_value : (ℕ → Content) → (ℕ → Signals) → ℕ → Column → ℤ
column_value s φ t (Moves c d) = pos (moves φ c d t)
column_value s φ t (Count q d) = pos (count s q d)

abbrev pub value_or : (Column → ℤ) → Option Column → ℤ
value_or at None = pos 0
value_or at (Some k) = at k

-- the columns' numbers, by place
abbrev pub point : List Column → (Column → ℤ) → ℕ → ℤ
point listed at j = value_or at (slice_get listed j)

-- what the columns of lemmas count in a state
abbrev pub count_value : (ℕ → Content) → Column → ℤ
count_value s (Moves c d) = pos 0
count_value s (Count q d) = pos (count s q d)

-- how many pairs and how many queue pairs a design has, and the most pairs with which flow rows are made
abbrev pub pair_count : Designed → ℕ
pair_count it = length (pairs (colours_at it.colours) it.net.channels)

abbrev pub queue_pair_count : Designed → ℕ
queue_pair_count it = length (queue_pairs (colours_at it.colours) 0 it.net.prims)

abbrev pub most_pairs : ℕ
most_pairs = 4096

-- they are those of the design
pub record IsFlowOf (it : Designed) (flow : Flow) : Type 0 where
  pub rows : AreFlowRows it flow.rows
  pub moves : flow.moves ≡ pair_count it
  pub counts : flow.counts ≡ queue_pair_count it

-- the columns of lemmas
abbrev pub count_columns : Designed → List Column
count_columns it = map count_of (queue_pairs (colours_at it.colours) 0 it.net.prims)

-- each flow row holds at each moment of each run, with the moves so far and the packets that are there
abbrev pub FlowHolds : Type 0
FlowHolds =
    (it : Designed) (rows : List SparseRow) (cycles : ℕ) (w : ℕ → ℕ → Choice) (s : ℕ → ℕ → Content) (φ : ℕ → Signals) →
    IsDesigned it → AreFlowRows it rows → TapeFits it.net cycles w → IsRun it.net cycles w s φ →
    (t : ℕ) → t ≤ cycles → All (λ r. Meets r (pos 1) (point (columns it) (column_value (s t) φ t))) rows

-- and so does each row that follows from them
abbrev pub LemmasHold : Type 0
LemmasHold =
    (it : Designed) (rows : List SparseRow) (lemma : Lemma) (cycles : ℕ) (w : ℕ → ℕ → Choice)
    (s : ℕ → ℕ → Content) (φ : ℕ → Signals) →
    IsDesigned it → AreFlowRows it rows → IsValid (pair_count it) (queue_pair_count it) rows lemma →
    TapeFits it.net cycles w → IsRun it.net cycles w s φ →
    (t : ℕ) → t ≤ cycles → Meets lemma.row (pos 1) (point (count_columns it) (count_value (s t)))
