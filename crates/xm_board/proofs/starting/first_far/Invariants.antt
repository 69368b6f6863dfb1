use Rattle.xm_board.specs.Inner.Starting.{AreEach, IsFirstFar}
use Rattle.xm_parts.specs.Kept.{label_at}
use Rattle.xm_board.proofs.starting.first_far.Given as goal

abbrev pub invariant-loop-p : goal.invariant-loop-p
invariant-loop-p l = AreEach (IsFirstFar l.design.net (label_at l.parts.labels) l.logs) l.p l.made.items
