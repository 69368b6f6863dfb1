use Rattle.std.proofs.Common.{◌∙◌}
use Rattle.xm_persist.proofs.Granting.{AreLent, found_none, found_some}
use Rattle.xm_persist.proofs.persistent.first_ungranted.Goals as goal

pub returns : goal.returns
returns c =
    let lent : AreLent c.args.design.now.net c.net-net.result.now c.args.design.now.order c.as_slice.result.now c.in_ok-found.found.items c.as_slice-2.result.now = record {
      net_is = c.net-net.ensures.net;
      order_is = c.as_slice.ensures ∙ c.signals-order.ensures ∙ c.order.ensures;
      persistencies_are = c.as_slice-2.ensures;
      order = c.net-net.ensures.design.order;
      whole = c.in_ok-found.ensures.whole;
      exact = c.in_ok-found.ensures.exact;
    } in
    let found = c.first_not_granted in
    record {
      none = found_none _ _ _ _ _ _ lent found.result found.ensures.none;
      some = found_some _ _ _ _ _ _ lent found.result found.ensures.within found.ensures.ungranted found.ensures.below;
    }
