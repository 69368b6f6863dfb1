use Rattle.std.proofs.Common.{◌≡◌}
use Rattle.xm_board.specs.Inner.Choosing.{best_below}
use Rattle.xm_board.proofs.board_core.BoardCore.next_ready.Given as goal

abbrev pub invariant-loop-p : goal.invariant-loop-p
invariant-loop-p l = l.best ≡ best_below l.self l.p
