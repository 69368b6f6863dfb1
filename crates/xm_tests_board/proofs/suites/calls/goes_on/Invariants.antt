use Rattle.xm_tests_board.specs.Inner.Stays.{Stays}
use Rattle.xm_tests_board.proofs.suites.calls.goes_on.Given as goal

abbrev pub invariant-loop-k : goal.invariant-loop-k
invariant-loop-k l = Stays l.initial.board l.board
