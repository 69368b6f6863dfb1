use Rattle.xm_board.specs.Inner.Starting.{AreEach, AreFirstMoves}
use Rattle.xm_parts.specs.Kept.{label_at}
use Rattle.xm_board.proofs.starting.first_moves.Given as goal

abbrev pub invariant-loop-p : goal.invariant-loop-p
invariant-loop-p l = AreEach (AreFirstMoves l.parts.design.net (label_at l.parts.labels) l.logs) l.p l.made.items
