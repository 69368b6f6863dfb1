use Rattle.std.proofs.Common.{◌≡◌, ◌++◌, List, take}
use Rattle.xm_design.specs.Designed.{Designed}
use Rattle.xm_flow.specs.ValidLemma.{Lemma}
use Rattle.xm_lits.specs.declared.literal.Lit.{Lit}
use Rattle.xm_search.specs.Inner.Named.{AreNamed}
use Rattle.xm_search.proofs.near.push_all.Given as goal

abbrev pub invariant-loop-i : goal.invariant-loop-i
invariant-loop-i l = record {
  cons : l.bounds.cons.items ≡ l.fn.bounds.cons.items ++ take l.i l.shared.cons.items;
  named : (it : Designed) (lemmas : List Lemma) (path : List Lit) → AreNamed it lemmas path l.shared → AreNamed it lemmas path l.fn.bounds → AreNamed it lemmas path l.bounds;
}
