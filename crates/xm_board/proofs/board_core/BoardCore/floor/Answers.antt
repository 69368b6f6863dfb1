use Rattle.std.proofs.Common.{arith}
use Rattle.xm_board.proofs.Choosing.{least_more}
use Rattle.xm_board.proofs.board_core.BoardCore.floor.Goals as goal

pub loop-p-preserved : goal.loop-p-preserved
loop-p-preserved c =
    let cycle = c.cycle.ensures in
    let least = c.min-least.ensures in
    least_more c.args.self.now c.loop-p.p c.loop-p.least c.min-least.result c.loop-p.invariant (omega arith)
