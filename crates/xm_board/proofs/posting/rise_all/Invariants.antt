use Rattle.std.proofs.Common.{◌≡◌, ℕ, ◌<◌, ◌≤◌, Some, slice_get}
use Rattle.xm_board.specs.Inner.Posting.{IsRisen}
use Rattle.xm_board.specs.declared.row_log.RowLog.{RowLog}
use Rattle.xm_board.proofs.posting.rise_all.Given as goal

abbrev pub invariant-loop-p : goal.invariant-loop-p
invariant-loop-p l = record {
  risen : (q : ℕ) (was log : RowLog) → q < l.p → slice_get l.initial.logs q ≡ Some was → slice_get l.logs q ≡ Some log → IsRisen was log;
  rest : (q : ℕ) → l.p ≤ q → slice_get l.logs q ≡ slice_get l.initial.logs q;
}
