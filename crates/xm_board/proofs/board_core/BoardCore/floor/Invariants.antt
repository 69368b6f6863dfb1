use Rattle.xm_board.specs.Inner.Choosing.{IsLeastBelow}
use Rattle.xm_board.proofs.board_core.BoardCore.floor.Given as goal

abbrev pub invariant-loop-p : goal.invariant-loop-p
invariant-loop-p l = IsLeastBelow l.self l.p l.least
