use Rattle.std.proofs.Common.{pos}
use Rattle.xm_search.proofs.Naming.{lows_next}
use Rattle.xm_search.proofs.ask.push_lows.Goals as goal

pub loop-k-preserved : goal.loop-k-preserved
loop-k-preserved c = lows_next c.args.pairs.now c.args.lows.now c.loop-k.k (0, 0) (pos 0) c.args.items.now.items c.loop-k.items.items c.push_low.new.items.items
    c.requires c.loop-k-test.true c.loop-k.invariant c.in_ok-push_low.ensures
