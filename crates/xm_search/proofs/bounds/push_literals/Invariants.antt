use Rattle.std.proofs.Common.{◌≡◌, ◌++◌, List, take}
use Rattle.xm_flow.specs.ValidLemma.{Lemma}
use Rattle.xm_search.specs.Constraints.{said}
use Rattle.xm_search.specs.Inner.Named.{AreNamed}
use Rattle.xm_search.proofs.bounds.push_literals.Given as goal

abbrev pub invariant-loop-lit : goal.invariant-loop-lit
invariant-loop-lit l = record {
  cons : l.bounds.cons.items ≡ l.fn.bounds.cons.items ++ said l.design (take l.lit-index l.path);
  named : (lemmas : List Lemma) → AreNamed l.design lemmas l.path l.fn.bounds → AreNamed l.design lemmas l.path l.bounds;
}
