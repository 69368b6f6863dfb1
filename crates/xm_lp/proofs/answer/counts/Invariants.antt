use Rattle.std.proofs.Common.{ℕ}
use Rattle.xm_rows.specs.Row.{Fits128}
use Rattle.xm_lp.specs.Answer.{number_at}
use Rattle.xm_lp.specs.Inner.Denominator.{AreCountsOf}
use Rattle.xm_lp.specs.Inner.Table.{tableau_of}
use Rattle.xm_lp.proofs.answer.counts.Given as goal

abbrev pub invariant-loop-i : goal.invariant-loop-i
invariant-loop-i l =
    record { are : AreCountsOf l.columns (tableau_of l.table) l.i l.denominator l.counts.items; fit : (k : ℕ) → Fits128 (number_at l.counts.items k) }
