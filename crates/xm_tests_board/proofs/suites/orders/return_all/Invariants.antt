use Rattle.std.proofs.Common.{vec_len}
use Rattle.xm_tests_board.specs.Inner.Stays.{AreOf, Stays}
use Rattle.xm_tests_board.proofs.suites.orders.return_all.Given as goal

abbrev pub invariant-loop-job : goal.invariant-loop-job
invariant-loop-job l = record {
  stays : Stays l.initial.board l.board;
  jobs : AreOf l.board.run l.jobs.items;
}

abbrev pub decreases-loop-job : goal.decreases-loop-job
decreases-loop-job l = vec_len l.jobs
