use Rattle.std.proofs.Common.{◌∙◌}
use Rattle.xm_model.specs.Views.{signals_of}
use Rattle.xm_plan.proofs.Operands.{switch_offers_made}
use Rattle.xm_plan.proofs.making.make_switch_offers.Goals as goal

pub returns : goal.returns
returns c = λ s w apart.
    switch_offers_made c.args.input c.args.a c.args.b c.args.to_a.now s w (signals_of c.args.wires.now) (signals_of c.put_offer.new.wires) (signals_of c.put_offer-2.new.wires) apart
    (c.put_offer.ensures.value ∙ (rw c.offer_in-given.ensures at c.on_side_a-offer_a.ensures)) c.put_offer.ensures.only
    (c.put_offer-2.ensures.value ∙ (rw c.offer_in-given.ensures at c.on_side_b-offer_b.ensures)) c.put_offer-2.ensures.only
