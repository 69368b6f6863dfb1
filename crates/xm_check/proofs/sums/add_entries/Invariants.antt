use Rattle.std.proofs.Common.{◌≡◌, Some, drop}
use Rattle.xm_proof.specs.Sums as spec
use Rattle.xm_check.proofs.sums.add_entries.Given as goal

abbrev pub invariant-loop-entry : goal.invariant-loop-entry
invariant-loop-entry l = spec.add_entries l.factor l.entries (Some l.fn.columns) ≡ spec.add_entries l.factor (drop l.entry-index l.entries) (Some l.columns)
