use Rattle.xm_order.specs.Inner.Walk.{Advances, IsWalk, all_left}
use Rattle.xm_order.proofs.walk.Walk.visit.Given as goal

abbrev pub invariant-loop-alloc : goal.invariant-loop-alloc
invariant-loop-alloc l = record {
  walk : IsWalk l.net l.self;
  advances : Advances l.initial.self.progress.items l.self.progress.items;
}

abbrev pub decreases-loop-alloc : goal.decreases-loop-alloc
decreases-loop-alloc l = all_left l.self.progress.items
