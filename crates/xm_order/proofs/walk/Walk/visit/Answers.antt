use Rattle.std.proofs.Common.{refl}
use Rattle.xm_order.proofs.Walking.{advances_none, advances_on, empty_from, entered_alone, entered_done}
use Rattle.xm_order.proofs.walk.Walk.visit.Goals as goal

pub loop-alloc-init : goal.loop-alloc-init
loop-alloc-init c =
    let left = c.in_ok-enter.ensures in
    let start = entered_alone _ _ _ _ c.requires.walk c.requires.path _ c.in-Unseen.ensures _ _ _ left.done left.path left.progress in
    record { walk = start.0.walk; advances = advances_none c.enter.new.self.progress.items }

pub returns : goal.returns
returns c =
    let left = c.in_ok-enter.ensures in
    let start = entered_alone _ _ _ _ c.requires.walk c.requires.path _ c.in-Unseen.ensures _ _ _ left.done left.path left.progress in
    let invariant = c.loop-alloc.invariant in
    let none = empty_from c.loop-alloc.self.path.items (c.loop-alloc-test.ensures.0 refl) in
    record {
      walk = invariant.walk;
      path = none;
      done = entered_done _ _ _ _ invariant.walk none _ _ start.0.walk.whole invariant.advances start.1;
      advances = advances_on _ _ _ start.0.advances invariant.advances;
      looped = λ found e. absurd cc;
    }
