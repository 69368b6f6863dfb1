use Rattle.std.proofs.Common.{◌*◌, ap}
use Rattle.xm_order.proofs.Walking.{unmet_walk}
use Rattle.xm_order.proofs.walk.unmet.Goals as goal

pub returns-clause-walk : goal.returns-clause-walk
returns-clause-walk c =
    rw (c.new.ensures.items, c.new-2.ensures.items, c.in_ok-progress.ensures)
    (unmet_walk c.args.net.now _ (ap (λ n. 2 * n) c.channels.ensures.value))
