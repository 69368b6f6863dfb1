use Rattle.std.proofs.Common.{◌≡◌, drop}
use Rattle.xm_lits.specs.Paths.{are_on_path}
use Rattle.xm_lits.proofs.path.are_on_path.Given as goal

abbrev pub invariant-loop-lit : goal.invariant-loop-lit
invariant-loop-lit l = are_on_path l.path l.lits ≡ are_on_path l.path (drop l.lit-index l.lits)
