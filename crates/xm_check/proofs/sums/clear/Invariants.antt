use Rattle.std.proofs.Common.{◌≡◌, drop, length}
use Rattle.xm_check.specs.Inner.Touched.{cleared}
use Rattle.xm_check.proofs.sums.clear.Given as goal

abbrev pub invariant-loop-k : goal.invariant-loop-k
invariant-loop-k l = (cleared l.touched l.fn.columns ≡ cleared (drop l.k-index l.touched) l.columns) × (length l.columns ≡ length l.fn.columns)
