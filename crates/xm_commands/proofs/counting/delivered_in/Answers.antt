use Rattle.std.proofs.Common.{arith}
use Rattle.std.proofs.lemmas.List.Sums.{sum_by_more_le}
use Rattle.xm_commands.specs.Inner.Counting.{delivered_by}
use Rattle.xm_commands.proofs.counting.delivered_in.Goals as goal

pub overflow_add-sum : goal.overflow_add-sum
overflow_add-sum c =
    let more = sum_by_more_le (delivered_by c.args.net.now) c.args.totals.now c.loop-k.k (record { channel = 0; colour = 0; count = 0 }) c.loop-k-test.true in
    omega (arith, more, c.loop-k.invariant, c.requires.few, c.delivered_by-sum.ensures)
