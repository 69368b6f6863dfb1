use Rattle.xm_search.proofs.Growing.{next_off}
use Rattle.xm_search.proofs.growth.next_path.Goals as goal

pub returns : goal.returns
returns c =
    next_off c.args.leaves.now.items c.remove.new.self.items c.remove.result c.len-count.result c.len-count.ensures c.requires c.remove.ensures.item c.remove.ensures.items
