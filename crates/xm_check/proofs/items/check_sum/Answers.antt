use Rattle.std.proofs.Common.{map, length, refl, ◌∙◌}
use Rattle.xm_check.specs.Break.{items_test}
use Rattle.xm_check.proofs.Summing.{item_keeps, items_on}
use Rattle.xm_flow.specs.ValidLemma.{lemma_of}
use Rattle.xm_proof.specs.Sums.{no_sums}
use Rattle.xm_proof.specs.Tests.{queue_columns}
use Rattle.xm_check.proofs.items.check_sum.Goals as goal

pub loop-item-preserved : goal.loop-item-preserved
loop-item-preserved c =
    let it = c.args.design.now in
    let lemmas = map lemma_of c.args.lemmas.now in
    let items = c.args.items.now in
    let tested = c.in_ok-sums.ensures in
    record {
      same = items_on it lemmas c.args.path.now items c.loop-item.item-index _ _ c.loop-item.sums c.in_ok-sums.sums (items_test it lemmas c.args.path.now items (no_sums (length (queue_columns it)))) c.loop-item-test.true refl c.loop-item.invariant.same tested;
      long = item_keeps it lemmas c.args.path.now _ c.loop-item.sums c.in_ok-sums.sums tested ∙ c.loop-item.invariant.long;
    }
