use Rattle.std.proofs.Common.{◌≡◌, drop}
use Rattle.xm_lits.specs.Paths.{is_on_path}
use Rattle.xm_search.proofs.ends.place_of.Given as goal

abbrev pub invariant-loop-k : goal.invariant-loop-k
invariant-loop-k l = is_on_path l.before l.lit ≡ is_on_path (drop l.k l.before) l.lit
