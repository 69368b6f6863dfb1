use Rattle.std.proofs.lemmas.Result.{IfOk-weaker}
use Rattle.xm_order.proofs.Needing.{initiator_there, offer_depends, ready_depends, target_there}
use Rattle.xm_order.proofs.needs.needs_of.Goals as goal

pub returns-in-Offer : goal.returns-in-Offer
returns-in-Offer c = rw c.in-Offer.is (IfOk-weaker c.offer_needs.result _ _ (λ needs. offer_depends c.args.net.now c.is_net.ensures c.initiator.result c.in-Offer.c _ needs.items c.prim.ensures (initiator_there c.args.net.now c.is_net.ensures _ _ _ c.prim.ensures c.initiator.ensures.initiator)) c.offer_needs.ensures)

pub returns-in-Ready : goal.returns-in-Ready
returns-in-Ready c = rw c.in-Ready.is (IfOk-weaker c.ready_needs.result _ _ (λ needs. ready_depends c.args.net.now c.is_net.ensures c.target.result c.in-Ready.c _ needs.items c.prim-in-Ready.ensures (target_there c.args.net.now c.is_net.ensures _ _ _ c.prim-in-Ready.ensures c.target.ensures.target)) c.ready_needs.ensures)
