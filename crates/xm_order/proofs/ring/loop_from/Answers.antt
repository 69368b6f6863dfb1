use Rattle.std.proofs.Common.{subst, sym}
use Rattle.std.proofs.lemmas.List.{take_rest}
use Rattle.std.specs.Prelude.{List}
use Rattle.xm_order.proofs.Ringing.{ring_at}
use Rattle.xm_order.specs.Inner.Path.{IsRing}
use Rattle.xm_order.specs.declared.signal.Signal.{Signal}
use Rattle.xm_order.proofs.ring.loop_from.Goals as goal

pub returns : goal.returns
returns c net is_path last =
    let from = c.place_on-from.result in
    c.turned.ensures net (subst (λ (xs : List Signal). IsRing net xs) (sym (take_rest c.args.path.now from)) (ring_at net c.args.path.now from c.args.it is_path last c.place_on-from.ensures))
