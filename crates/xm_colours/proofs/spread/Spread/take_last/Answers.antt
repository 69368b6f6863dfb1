use Rattle.xm_colours.proofs.Sets.{split_last}
use Rattle.xm_colours.proofs.spread.Spread.take_last.Goals as goal

pub returns-clause-pending : goal.returns-clause-pending
returns-clause-pending c = split_last c.args.self.now.pending.items c.len-last.result c.remove.result c.remove.new.self.items c.len-last.ensures c.remove.ensures.item c.remove.ensures.items
