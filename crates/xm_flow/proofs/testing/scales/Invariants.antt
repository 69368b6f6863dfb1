use Rattle.std.proofs.Common.{take, All, ◌*ℤ◌}
use Rattle.xm_rows.specs.Row.{Fits128}
use Rattle.xm_flow.proofs.testing.scales.Given as goal

abbrev pub invariant-loop-entry : goal.invariant-loop-entry
invariant-loop-entry l = All (λ e. Fits128 (l.it.scale *ℤ e.value)) (take l.entry-index l.entry-items)
