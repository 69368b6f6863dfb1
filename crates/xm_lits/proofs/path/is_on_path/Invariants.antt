use Rattle.std.proofs.Common.{◌≡◌, drop}
use Rattle.xm_lits.specs.Paths.{is_on_path}
use Rattle.xm_lits.proofs.path.is_on_path.Given as goal

abbrev pub invariant-loop-other : goal.invariant-loop-other
invariant-loop-other l = is_on_path l.path l.lit ≡ is_on_path (drop l.other-index l.path) l.lit
