use Rattle.std.proofs.Common.{◌≡◌, drop}
use Rattle.xm_check.specs.Inner.Touched.{zero_at}
use Rattle.xm_check.proofs.sums.are_zero.Given as goal

abbrev pub invariant-loop-k : goal.invariant-loop-k
invariant-loop-k l = zero_at l.columns l.touched ≡ zero_at l.columns (drop l.k-index l.touched)
