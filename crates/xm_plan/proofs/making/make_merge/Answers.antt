use Rattle.std.proofs.Common.{◌∙◌}
use Rattle.xm_model.specs.Component.{content_of}
use Rattle.xm_model.specs.Views.{signals_of}
use Rattle.xm_plan.proofs.Operands.{merge_made}
use Rattle.xm_plan.proofs.making.make_merge.Goals as goal

pub returns : goal.returns
returns g c = λ w apart.
    merge_made c.args.a c.args.b c.args.out (content_of (g.C.HasCell.cell c.args.cell.now)) w (signals_of c.args.wires.now) (signals_of c.put_offer.new.wires) (signals_of c.put_ready.new.wires) (signals_of c.put_ready-2.new.wires) apart
    (c.put_offer.ensures.value ∙ (rw (c.granted-side.ensures, c.preferred.ensures, c.offer_in-x.ensures, c.offer_in-y.ensures) at c.taken_from-offer.ensures)) c.put_offer.ensures.only
    (c.put_ready.ensures.value ∙ (rw (c.is_side_a.ensures, c.granted-side.ensures, c.preferred.ensures, c.offer_in-x.ensures, c.offer_in-y.ensures, c.ready_in-at_out.ensures) at c.both-ready_a.ensures)) c.put_ready.ensures.only
    (c.put_ready-2.ensures.value ∙ (rw (c.is_side_b.ensures, c.granted-side.ensures, c.preferred.ensures, c.offer_in-x.ensures, c.offer_in-y.ensures, c.ready_in-at_out.ensures) at c.both-ready_b.ensures)) c.put_ready-2.ensures.only
