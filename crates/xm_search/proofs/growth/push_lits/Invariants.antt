use Rattle.std.proofs.Common.{◌≡◌, ◌++◌, take}
use Rattle.xm_search.proofs.growth.push_lits.Given as goal

abbrev pub invariant-loop-lit : goal.invariant-loop-lit
invariant-loop-lit l = l.path.items ≡ l.fn.path.items ++ take l.lit-index l.lits
