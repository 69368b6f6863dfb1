use Rattle.std.proofs.Common.{◌^◌, ◌<◌}
use Rattle.xm_lp.specs.Inner.Denominator.{IsLeastOf}
use Rattle.xm_lp.specs.Inner.Table.{tableau_of}
use Rattle.xm_lp.proofs.answer.denominator.Given as goal

abbrev pub invariant-loop-i : goal.invariant-loop-i
invariant-loop-i l = record { least : IsLeastOf l.columns (tableau_of l.table) l.i l.common; fits : l.common < 2 ^ 127 }
