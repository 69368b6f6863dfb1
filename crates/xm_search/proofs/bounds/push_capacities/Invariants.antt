use Rattle.std.proofs.Common.{◌≡◌, ◌++◌, List, take}
use Rattle.xm_flow.specs.ValidLemma.{Lemma}
use Rattle.xm_lits.specs.declared.literal.Lit.{Lit}
use Rattle.xm_search.specs.Constraints.{capacities}
use Rattle.xm_search.specs.Inner.Named.{AreNamed}
use Rattle.xm_search.proofs.bounds.push_capacities.Given as goal

abbrev pub invariant-loop-q : goal.invariant-loop-q
invariant-loop-q l = record {
  cons : l.bounds.cons.items ≡ l.fn.bounds.cons.items ++ capacities l.design 0 (take l.q l.design.net.prims);
  named : (lemmas : List Lemma) (path : List Lit) → AreNamed l.design lemmas path l.fn.bounds → AreNamed l.design lemmas path l.bounds;
}
