use Rattle.xm_persist.specs.Inner.Persistencies.{AreExact, granted_in}
use Rattle.xm_persist.proofs.persistencies.grant_all.Given as goal

abbrev pub invariant-loop-k : goal.invariant-loop-k
invariant-loop-k l = AreExact l.net l.order l.k (granted_in l.found)
