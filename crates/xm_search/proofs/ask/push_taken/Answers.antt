use Rattle.std.proofs.Common.{pos}
use Rattle.xm_proof.specs.declared.proof.Item.TheVariants as item
use Rattle.xm_search.proofs.Naming.{taken_next}
use Rattle.xm_search.proofs.ask.push_taken.Goals as goal

pub loop-i-preserved : goal.loop-i-preserved
loop-i-preserved c = taken_next c.args.names.now c.args.multipliers.now c.loop-i.i (item.Lemma 0 (pos 0)) (pos 0) c.args.items.now.items c.loop-i.items.items c.push_item.new.items.items
    c.requires c.loop-i-test.true c.loop-i.invariant c.in_ok-push_item.ensures
