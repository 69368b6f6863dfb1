use Rattle.std.proofs.Common.{vec_len}
use Rattle.xm_tests_board.proofs.suites.orders.turns_on.Given as goal

abbrev pub decreases-loop-it : goal.decreases-loop-it
decreases-loop-it l = vec_len l.order
