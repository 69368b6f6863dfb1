use Rattle.std.proofs.Common.{◌∙◌}
use Rattle.xm_model.specs.Views.{signals_of}
use Rattle.xm_plan.proofs.Operands.{join_made}
use Rattle.xm_plan.proofs.making.make_join.Goals as goal

pub returns : goal.returns
returns c = λ s w apart.
    join_made c.args.a c.args.b c.args.out c.args.pass s w (signals_of c.args.wires.now) (signals_of c.put_offer.new.wires) (signals_of c.put_ready.new.wires) (signals_of c.put_ready-2.new.wires) apart
    (c.put_offer.ensures.value ∙ (rw (c.offer_in-x.ensures, c.offer_in-y.ensures) at c.joined-offer.ensures)) c.put_offer.ensures.only
    (c.put_ready.ensures.value ∙ (rw (c.ready_in-at_out.ensures, c.is_some.ensures, c.offer_in-y.ensures) at c.both-ready_a.ensures)) c.put_ready.ensures.only
    (c.put_ready-2.ensures.value ∙ (rw (c.ready_in-at_out.ensures, c.is_some-2.ensures, c.offer_in-x.ensures) at c.both-ready_b.ensures)) c.put_ready-2.ensures.only
