use Rattle.std.proofs.Common.{ap, arith, length}
use Rattle.xm_board.proofs.Handing.{passing_few}
use Rattle.xm_parts.specs.Kept.{label_at}
use Rattle.xm_parts.specs.Partition.{lies_in}
use Rattle.xm_board.proofs.starting.moves_of.Goals as goal

pub overflow_cast-channels : goal.overflow_cast-channels
overflow_cast-channels c =
    let channels = ap length c.channels-channels.ensures in
    let few = passing_few (lies_in (label_at c.args.parts.now.labels) c.args.p) c.args.parts.now.design.net.channels in
    let limit = c.count-count.ensures.designed.net.limits.channels in
    omega arith
