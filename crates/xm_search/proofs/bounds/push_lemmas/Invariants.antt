use Rattle.std.proofs.Common.{◌≡◌, ◌<◌, ◌++◌, List, length, map, take, All}
use Rattle.xm_design.specs.Designed.{Designed}
use Rattle.xm_flow.specs.ValidLemma.{lemma_of}
use Rattle.xm_lits.specs.declared.literal.Lit.{Lit}
use Rattle.xm_proof.specs.Tests.{queue_columns}
use Rattle.xm_search.specs.Constraints.{equation}
use Rattle.xm_search.specs.Inner.Named.{AreNamed}
use Rattle.xm_search.proofs.bounds.push_lemmas.Given as goal

abbrev pub invariant-loop-k : goal.invariant-loop-k
invariant-loop-k l = record {
  cons : l.bounds.cons.items ≡ l.fn.bounds.cons.items ++ map equation (map lemma_of (take l.k l.lemmas));
  named : (it : Designed) (path : List Lit) → All (λ m. All (λ e. e.column < length (queue_columns it)) m.row.entries) (map lemma_of l.lemmas) →
      AreNamed it (map lemma_of l.lemmas) path l.fn.bounds → AreNamed it (map lemma_of l.lemmas) path l.bounds;
}
