use Rattle.std.proofs.Common.{◌≡◌, []}
use Rattle.xm_search.specs.GoalOrder.{onward}
use Rattle.xm_search.specs.Inner.Walking.{IsOver, IsPartWay}
use Rattle.xm_search.proofs.walk.leaving_order.Given as goal

abbrev pub invariant-loop-c : goal.invariant-loop-c
invariant-loop-c l = record {
  over : IsOver l.net l.walk;
  path : l.walk.path.items ≡ [];
  part : IsPartWay (onward l.net) l.net.channels l.c l.walk;
}
