use Rattle.std.proofs.Common.{◌∙◌}
use Rattle.xm_model.specs.Views.{signals_of}
use Rattle.xm_plan.proofs.Operands.{plain_fork_made}
use Rattle.xm_plan.proofs.making.make_plain_fork.Goals as goal

pub returns : goal.returns
returns c = λ ta tb s w apart keeps_a keeps_b.
    plain_fork_made c.args.input c.args.a c.args.b c.args.colours ta tb s w (signals_of c.args.wires.now) (signals_of c.put_offer.new.wires) (signals_of c.put_offer-2.new.wires) (signals_of c.put_ready.new.wires) apart keeps_a keeps_b
    (c.put_offer.ensures.value ∙ (rw (c.ready_in-at_b.ensures, c.kept_offer-offer.ensures, c.offer_in-given.ensures) at c.only-offer_a.ensures)) c.put_offer.ensures.only
    (c.put_offer-2.ensures.value ∙ (rw (c.ready_in-at_a.ensures, c.kept_offer-offer.ensures, c.offer_in-given.ensures) at c.only-offer_b.ensures)) c.put_offer-2.ensures.only
    (c.put_ready.ensures.value ∙ (rw (c.ready_in-at_a.ensures, c.ready_in-at_b.ensures) at c.both-ready.ensures)) c.put_ready.ensures.only
