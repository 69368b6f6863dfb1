use Rattle.std.proofs.Common.{arith}
use Rattle.xm_trace.proofs.Running.{note_more}
use Rattle.xm_trace.proofs.trace.note_moves.Goals as goal

pub loop-c-preserved : goal.loop-c-preserved
loop-c-preserved c = record {
  items = note_more c.args.moves.now.items c.loop-c.moves.items c.note_move.new.moves.items c.args.wires.now c.args.cycle c.loop-c.c _ c.loop-c-test.true c.loop-c.invariant.items c.note_move.ensures.items;
  few = omega arith;
  room = cc;
}
