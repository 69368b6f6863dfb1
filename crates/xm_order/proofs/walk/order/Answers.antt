use Rattle.xm_order.proofs.Walking.{is_order}
use Rattle.xm_order.proofs.walk.order.Goals as goal

pub returns-clause-ok : goal.returns-clause-ok
returns-clause-ok c = let last = c.in_ok-visit_all.ensures in rw c.new.ensures (is_order _ _ _ _ last.walk last.path last.done)
