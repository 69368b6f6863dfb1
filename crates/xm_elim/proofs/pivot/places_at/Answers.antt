use Rattle.std.proofs.Common.{◌<◌, ◌^◌, length, arith}
use Rattle.std.proofs.lemmas.List.Elements.{All-weaker}
use Rattle.xm_elim.proofs.Placing.{placed}
use Rattle.xm_elim.proofs.pivot.places_at.Goals as goal

pub in_order-requires : goal.in_order-requires
in_order-requires c =
    let few = c.requires.few in
    All-weaker (λ p. p < length c.args.rows.now) (λ p. p < 2 ^ 20) (λ p less. omega arith) c.taken_of.new.places.items c.in_ok-taken_of.ensures.within

pub returns : goal.returns
returns c =
    placed c.args.rows.now c.args.column c.args.noted.now c.taken_of.new.places.items c.in_order.new.places.items c.requires.covers c.in_ok-taken_of.ensures c.in_ok-in_order.ensures
