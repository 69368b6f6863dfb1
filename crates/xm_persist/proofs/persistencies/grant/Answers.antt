use Rattle.xm_persist.proofs.Granting.{granted_offer, granted_ready}
use Rattle.xm_persist.specs.Inner.Persistencies.{granted_in}
use Rattle.xm_persist.proofs.persistencies.grant.Goals as goal

pub returns-in-Offer-clause-made : goal.returns-in-Offer-clause-made
returns-in-Offer-clause-made c =
    rw c.in-Offer.is (granted_offer c.args.net.now (granted_in c.args.found.now) (granted_in c.put_granted.new.found) _ c.in-Offer.c _ _ c.prim.ensures c.initiator.ensures.initiator c.grants_initiator-granted.ensures c.put_granted.ensures.value)

pub returns-in-Ready-clause-made : goal.returns-in-Ready-clause-made
returns-in-Ready-clause-made c =
    rw c.in-Ready.is (granted_ready c.args.net.now (granted_in c.args.found.now) (granted_in c.put_granted-in-Ready.new.found) _ c.in-Ready.c _ _ c.prim-in-Ready.ensures c.target.ensures.target c.grants_target-granted.ensures c.put_granted-in-Ready.ensures.value)
