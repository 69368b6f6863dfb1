use Rattle.std.proofs.Common.{refl, sym, ◌∙◌}
use Rattle.xm_model.specs.Lemmas.PortCounts.{at_first, at_second}
use Rattle.xm_model.specs.Views.{signals_of}
use Rattle.xm_plan.proofs.AtPorts.{not_first}
use Rattle.xm_plan.proofs.making.make_fork.Goals as goal

pub returns : goal.returns
returns c = λ s w apart. (
  signals_of c.put_offer.new.wires,
  (
    record { value = c.put_offer.ensures.value ∙ c.fork_offer-offer_a.ensures ∙ sym (at_first c.args.a _ _); only = c.put_offer.ensures.only },
    (
      signals_of c.put_offer-2.new.wires,
      (
        record { value = c.put_offer-2.ensures.value ∙ c.fork_offer-offer_b.ensures ∙ sym (at_second c.args.a c.args.b _ _ (not_first c.args.a c.args.b apart.0)); only = c.put_offer-2.ensures.only },
        (signals_of c.put_ready.new.wires, (record { value = c.put_ready.ensures.value ∙ c.both_ready-ready.ensures; only = c.put_ready.ensures.only }, refl)),
      ),
    ),
  ),
)
