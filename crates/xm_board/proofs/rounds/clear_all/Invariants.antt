use Rattle.std.proofs.Common.{◌≡◌, ℕ, ◌<◌, ◌≤◌, [], Some, slice_get}
use Rattle.xm_model.specs.ListView.{ListView}
use Rattle.xm_trace.specs.declared.trace.Move.{Move}
use Rattle.xm_board.proofs.rounds.clear_all.Given as goal

abbrev pub invariant-loop-p : goal.invariant-loop-p
invariant-loop-p l = record {
  cleared : (q : ℕ) (was ms : ListView Move) → q < l.p → slice_get l.initial.moves q ≡ Some was → slice_get l.moves q ≡ Some ms → (ms.items ≡ []) × (ms.room ≡ was.room);
  rest : (q : ℕ) → l.p ≤ q → slice_get l.moves q ≡ slice_get l.initial.moves q;
}
