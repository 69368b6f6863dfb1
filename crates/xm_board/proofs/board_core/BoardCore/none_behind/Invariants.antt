use Rattle.std.proofs.Common.{◌≡◌, drop}
use Rattle.xm_board.specs.Inner.Choosing.{none_behind}
use Rattle.xm_board.proofs.board_core.BoardCore.none_behind.Given as goal

abbrev pub invariant-loop-q : goal.invariant-loop-q
invariant-loop-q l = none_behind l.self.cycles l.cycle l.parts ≡ none_behind l.self.cycles l.cycle (drop l.q-index l.parts)
