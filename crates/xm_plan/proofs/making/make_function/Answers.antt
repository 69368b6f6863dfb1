use Rattle.std.proofs.Common.{refl, ◌∙◌}
use Rattle.xm_model.specs.Views.{signals_of}
use Rattle.xm_plan.proofs.making.make_function.Goals as goal

pub returns : goal.returns
returns c = λ s w. (
  signals_of c.put_offer.new.wires,
  (
    record { value = c.put_offer.ensures.value ∙ (rw c.offer_in.ensures at c.image-offer.ensures); only = c.put_offer.ensures.only },
    (signals_of c.put_ready.new.wires, (record { value = c.put_ready.ensures.value ∙ c.ready_in-ready.ensures; only = c.put_ready.ensures.only }, refl)),
  ),
)
