use Rattle.std.proofs.Common.{length, ap, ◌∙◌, arith}
use Rattle.xm_design.specs.Designed.{IsDesigned}
use Rattle.xm_parts.proofs.Building.{place_few}
use Rattle.xm_parts.proofs.Passing.{passing_length}
use Rattle.xm_parts.specs.Kept.{label_at}
use Rattle.xm_parts.specs.Partition.{lies_in, touches_at}
use Rattle.xm_parts.proofs.changes.Change.new.Goals as goal

pub overflow_cast-len : goal.overflow_cast-len
overflow_cast-len c =
    let net = c.args.parts.now.design.net in let label = label_at c.args.parts.now.labels in
    let count = ap length c.part-part.ensures.prims ∙ passing_length (touches_at net label c.args.p) (length net.prims) in
    let few = place_few (touches_at net label c.args.p) (length net.prims) in
    let designed : IsDesigned c.args.parts.now.design = rw c.requires.design c.net-net.ensures.design in
    let limits = designed.net.limits.prims in
    let is = c.len.ensures in
    omega arith

pub overflow_cast-len-2 : goal.overflow_cast-len-2
overflow_cast-len-2 c =
    let net = c.args.parts.now.design.net in let label = label_at c.args.parts.now.labels in
    let count = ap length c.part-part.ensures.channels ∙ passing_length (lies_in label c.args.p) net.channels in
    let few = place_few (lies_in label c.args.p) net.channels in
    let designed : IsDesigned c.args.parts.now.design = rw c.requires.design c.net-net.ensures.design in
    let limits = designed.net.limits.channels in
    let is = c.len-2.ensures in
    omega arith
