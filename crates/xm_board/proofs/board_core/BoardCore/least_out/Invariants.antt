use Rattle.std.proofs.Common.{◌≡◌, drop}
use Rattle.xm_board.specs.Inner.Choosing.{first_mark}
use Rattle.xm_board.proofs.board_core.BoardCore.least_out.Given as goal

abbrev pub invariant-loop-p : goal.invariant-loop-p
invariant-loop-p l = first_mark 0 l.self.out ≡ first_mark l.p (drop l.p l.self.out)
