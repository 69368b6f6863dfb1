use Rattle.std.proofs.Common.{ℕ, List}
use Rattle.xm_search.specs.GoalOrder.{onward}
use Rattle.xm_search.specs.Inner.Walking.{AreMarks, IsOver, IsUnderWay, steps_left}
use Rattle.xm_search.proofs.walk.visit.Given as goal

abbrev pub invariant-loop-walk : goal.invariant-loop-walk
invariant-loop-walk l = record {
  over : IsOver l.net l.walk;
  under_way : (before : List ℕ) → AreMarks before l.fn.walk.seen.items → IsUnderWay (onward l.net) before l.root l.fn.walk.left.items l.walk;
}

abbrev pub decreases-loop-walk : goal.decreases-loop-walk
decreases-loop-walk l = steps_left l.walk
