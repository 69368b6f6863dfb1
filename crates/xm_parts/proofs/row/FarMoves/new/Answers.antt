use Rattle.std.proofs.Common.{length, ap, ◌∙◌, arith}
use Rattle.xm_design.specs.Designed.{IsDesigned}
use Rattle.xm_parts.proofs.Building.{place_few}
use Rattle.xm_parts.proofs.Passing.{passing_length}
use Rattle.xm_parts.specs.Kept.{label_at}
use Rattle.xm_parts.specs.Partition.{is_cut}
use Rattle.xm_parts.proofs.row.FarMoves.new.Goals as goal

pub overflow_cast-cuts : goal.overflow_cast-cuts
overflow_cast-cuts c =
    let net = c.args.parts.now.design.net in let label = label_at c.args.parts.now.labels in
    let count = c.part.ensures.cuts.whole ∙ passing_length (is_cut net label c.args.p) (length net.prims) in
    let few = place_few (is_cut net label c.args.p) (length net.prims) in
    let designed : IsDesigned c.args.parts.now.design = rw c.requires.design c.net-net.ensures.design in
    let limits = designed.net.limits.prims in
    let is = ap length c.as_slice-cuts.ensures in
    omega arith
