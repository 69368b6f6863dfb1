use Rattle.xm_board.specs.Inner.Starting.{AreEach, IsFirstLog}
use Rattle.xm_parts.specs.Kept.{label_at}
use Rattle.xm_board.proofs.starting.first_logs.Given as goal

abbrev pub invariant-loop-p : goal.invariant-loop-p
invariant-loop-p l = AreEach (IsFirstLog l.design.net (label_at l.parts.labels) l.first) l.p l.made.items
