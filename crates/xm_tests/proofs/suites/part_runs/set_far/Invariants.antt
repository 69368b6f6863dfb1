use Rattle.std.proofs.Common.{◌≡◌, ℕ, length}
use Rattle.xm_model.specs.Component.{Content}
use Rattle.xm_model.specs.Signals.{Signals}
use Rattle.xm_parts.specs.Kept.{label_at}
use Rattle.xm_parts.specs.Partition.{cuts_in}
use Rattle.xm_tests.specs.Inner.Stepped.{AreRowsOf, AreSetFrom}
use Rattle.xm_tests.proofs.suites.part_runs.set_far.Given as goal

abbrev pub invariant-loop-k : goal.invariant-loop-k
invariant-loop-k l = record {
  size : length l.moves ≡ length (cuts_in l.design.net (label_at l.parts.labels) l.p);
  set : (s : ℕ → Content) (φ : Signals) → AreRowsOf l.design.net (label_at l.parts.labels) l.parts.count l.rows s φ → AreSetFrom l.design.net (label_at l.parts.labels) l.p l.near l.k φ l.moves;
}
