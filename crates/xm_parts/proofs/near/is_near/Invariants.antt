use Rattle.std.proofs.Common.{◌≡◌, ◌≢◌, ◌<◌, ℕ, Some, slice_get}
use Rattle.xm_parts.specs.declared.part.Cut.{Cut}
use Rattle.xm_parts.proofs.near.is_near.Given as goal

abbrev pub invariant-loop-cut : goal.invariant-loop-cut
invariant-loop-cut l = (j : ℕ) (cut : Cut) → j < l.cut-index → slice_get l.cuts j ≡ Some cut → cut.part ≢ l.q
