use Rattle.std.proofs.Common.{◌≡◌}
use Rattle.xm_parts.specs.Kept.{label_at}
use Rattle.xm_tests.specs.Inner.Stepped.{AreRows, IsUnderway}
use Rattle.xm_tests.proofs.suites.part_runs.are_cycles.Given as goal

abbrev pub invariant-loop-t : goal.invariant-loop-t
invariant-loop-t l = record {
  here : IsUnderway l.evaluator.net l.state.cells.items l.wires.wires.items;
  rows : AreRows l.evaluator.net (label_at l.parts.labels) l.parts.count l.rows.items;
  tape : l.drawn.tape ≡ l.initial.drawn.tape;
  cycle : l.drawn.cycle ≡ l.t;
}
