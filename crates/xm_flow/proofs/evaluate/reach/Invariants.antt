use Rattle.std.proofs.Common.{◌≤◌}
use Rattle.xm_flow.specs.Inner.Reaching.{IsReached}
use Rattle.xm_flow.proofs.evaluate.reach.Given as goal

abbrev pub invariant-loop-p : goal.invariant-loop-p
invariant-loop-p l = record {
  reached : IsReached l.design l.p l.below;
  low : l.below ≤ l.j;
}
