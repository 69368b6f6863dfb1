use Rattle.std.proofs.Common.{◌≡◌, drop, length, map}
use Rattle.xm_check.specs.Break.{items_test}
use Rattle.xm_flow.specs.ValidLemma.{lemma_of}
use Rattle.xm_proof.specs.Sums.{no_sums}
use Rattle.xm_proof.specs.Tests.{queue_columns}
use Rattle.xm_check.proofs.items.check_sum.Given as goal

abbrev pub invariant-loop-item : goal.invariant-loop-item
invariant-loop-item l = record {
  same :
      items_test l.design (map lemma_of l.lemmas) l.path l.items (no_sums (length (queue_columns l.design)))
      ≡ items_test l.design (map lemma_of l.lemmas) l.path (drop l.item-index l.items) l.sums;
  long : length l.sums.columns ≡ length (queue_columns l.design);
}
