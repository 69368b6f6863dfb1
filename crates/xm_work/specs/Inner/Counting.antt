-- The counts of a run while its passes are out.
use Rattle.std.specs.Prelude.{ℕ, List, IfSome}
use Rattle.xm_turn.specs.declared.rule.View.{View}
use Rattle.xm_work.specs.Counts.{AreCounts}

-- counts of the run that the view names, of which none is past `seen`
abbrev pub AreCountsOf : {N S : Type 0} → (N → S → Type 0) → (S → ℕ) → ℕ → ℕ → View N → ℕ → List S → Type 0
AreCountsOf is_of cycle_of w n v seen counts = IfSome v.run (λ r. AreCounts is_of cycle_of w n r seen counts)
