use Rattle.std.proofs.Common.{◌≡◌, None, drop}
use Rattle.std.specs.Prelude.{IfSome}
use Rattle.xm_proof.specs.Valid.{Cites}
use Rattle.xm_search.specs.Inner.Looking.{any_goal}
use Rattle.xm_search.proofs.ends.cited.Given as goal

abbrev pub invariant-loop-lit : goal.invariant-loop-lit
invariant-loop-lit l = record {
  none : l.least ≡ None → any_goal l.before l.path ≡ any_goal l.before (drop l.lit-index l.path);
  some : IfSome l.least (Cites l.before l.path);
}
