use Rattle.std.proofs.Common.{◌≡◌, ◌≢◌, ◌<◌, ℕ, Some, slice_get}
use Rattle.xm_model.specs.Views.{signals_of}
use Rattle.xm_model.specs.Next.{move}
use Rattle.xm_parts.specs.declared.part.Cut.{Cut}
use Rattle.xm_parts.proofs.moves.set_moves.Given as goal

abbrev pub invariant-loop-k : goal.invariant-loop-k
invariant-loop-k l = record {
  set : (k : ℕ) (cut : Cut) → k < l.k → slice_get l.cuts k ≡ Some cut → cut.part ≡ l.q → slice_get l.moves k ≡ Some (move (signals_of l.wires) cut.wire);
  rest : (k : ℕ) (cut : Cut) → slice_get l.cuts k ≡ Some cut → cut.part ≢ l.q → slice_get l.moves k ≡ slice_get l.initial.moves k;
}
