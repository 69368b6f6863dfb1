use Rattle.std.proofs.Common.{◌≡◌, length, ap, ◌∙◌, arith}
use Rattle.xm_parts.proofs.Building.{place_few}
use Rattle.xm_parts.proofs.Passing.{passing_length}
use Rattle.xm_parts.specs.Kept.{label_at}
use Rattle.xm_parts.specs.Partition.{lies_in}
use Rattle.xm_parts.specs.Passing.{place}
use Rattle.xm_parts.proofs.build.part_of.Goals as goal

pub overflow_cast-own : goal.overflow_cast-own
overflow_cast-own c =
    let net = c.args.design.now.net in let label = label_at c.args.labels.now in
    let same : c.net-net.result.now ≡ net = c.net-net.ensures.net in
    let long : length c.in_ok-channels.channels.items ≡ place (lies_in label c.args.p) net.channels = rw (← same) (ap length c.in_ok-channels.ensures ∙ passing_length (lies_in label c.args.p) c.net-net.result.now.channels) in
    let few = place_few (lies_in label c.args.p) net.channels in
    let limits = c.net-net.ensures.design.net.limits.channels in
    let is = c.len-own.ensures in
    omega arith
