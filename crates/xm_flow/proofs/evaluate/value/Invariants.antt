use Rattle.std.proofs.Common.{ℕ, ◌≤◌, ◌<◌, get_or, length, take}
use Rattle.xm_model.specs.Views.{content_at}
use Rattle.xm_rows.specs.declared.row.Entry.{Entry}
use Rattle.xm_rows.specs.Lemmas.Sums.{IsSum}
use Rattle.xm_flow.specs.Holding.{count_columns, count_value, point}
use Rattle.xm_flow.specs.Inner.Reaching.{IsReached}
use Rattle.xm_flow.proofs.evaluate.value.Given as goal

abbrev pub invariant-loop-entry : goal.invariant-loop-entry
invariant-loop-entry l = record {
  sum : IsSum (take l.entry-index l.entry-items) (point (count_columns l.design) (count_value (content_at l.state.cells.items))) l.total;
  reached : IsReached l.design l.reached.prim l.reached.below;
  low : (k : ℕ) (d : Entry) → l.entry-index ≤ k → k < length l.entry-items → l.reached.below ≤ (get_or l.entry-items k d).column;
}
