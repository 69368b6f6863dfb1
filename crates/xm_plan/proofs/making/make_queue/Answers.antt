use Rattle.std.proofs.Common.{refl, ap, ◌∙◌}
use Rattle.std.specs.Prelude.{nat_lt}
use Rattle.xm_model.specs.Views.{signals_of}
use Rattle.xm_plan.proofs.making.make_queue.Goals as goal

pub returns : goal.returns
returns g c = λ initial w. (
  signals_of c.put_offer.new.wires,
  (
    record { value = c.put_offer.ensures.value ∙ c.oldest-offer.ensures; only = c.put_offer.ensures.only },
    (signals_of c.put_ready.new.wires, (record { value = c.put_ready.ensures.value ∙ ap (λ n. nat_lt n c.args.capacity) c.count.ensures; only = c.put_ready.ensures.only }, refl)),
  ),
)
