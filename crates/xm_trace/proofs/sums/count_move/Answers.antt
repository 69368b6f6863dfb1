use Rattle.std.proofs.Common.{◌<◌, ◌+◌, ◌*◌, ℕ, ap, subst}
use Rattle.xm_trace.proofs.Counting.{one_more}
use Rattle.xm_trace.proofs.sums.count_move.Goals as goal

pub returns-then-colour-colours : goal.returns-then-colour-colours
returns-then-colour-colours c =
    one_more c.args.sums.now c.args.channels c.args.colours c.args.it.channel c.args.it.colour _ c.if-channel-channels.true
    (subst (λ (x : ℕ). x < c.args.colours) c.from-colour.ensures c.if-colour-colours.true) c.requires.table.whole
    (ap (λ (x : ℕ). c.args.it.channel * c.args.colours + x) c.from-colour.ensures)
