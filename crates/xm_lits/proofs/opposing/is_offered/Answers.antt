use Rattle.std.proofs.Common.{◌≡◌, ◌≤◌, ap, sym, arith}
use Rattle.xm_lits.proofs.Ends.{no_initiators}
use Rattle.xm_lits.specs.Clashes.{one_offers}
use Rattle.xm_model.specs.Net.{Network}
use Rattle.xm_lits.proofs.opposing.is_offered.Goals as goal

pub returns-then-channel-channels : goal.returns-then-channel-channels
returns-then-channel-channels c =
    let w : c.net-net.result.now.channels ≡ c.args.design.now.net.channels = ap (λ (n : Network). n.channels) c.net-net.ensures.net in
    let short : c.args.design.now.net.channels ≤ c.args.channel = omega (arith, w, c.channels.ensures.value, c.if-channel-channels.true) in
    sym (ap (one_offers c.args.design.now.net) (no_initiators c.args.design.now.net c.net-net.ensures.design.net c.args.channel short))
