use Rattle.xm_tests_board.specs.Inner.Stays.{AreOf, Stays}
use Rattle.xm_tests_board.proofs.suites.orders.goes_in.Given as goal

abbrev pub invariant-loop-turn : goal.invariant-loop-turn
invariant-loop-turn l = record {
  stays : Stays l.initial.board l.board;
  jobs : AreOf l.board.run l.jobs.items;
}
