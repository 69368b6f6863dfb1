use Rattle.std.proofs.Common.{arith}
use Rattle.std.proofs.lemmas.Grind.{common_steps}
use Rattle.xm_io.proofs.Streams.{write_goes_on}
use Rattle.xm_io.proofs.transfer.write_all.Goals as goal

pub loop-done-preserved : goal.loop-done-preserved
loop-done-preserved g c = record {
  within = grind (arith, common_steps, c.in_ok-done.ensures.bound);
  written = write_goes_on _ _ _ c.args.bytes.now c.loop-done.done c.in_ok-done.field-0 c.loop-done.invariant.written c.in_ok-done.ensures.bytes;
  unharmed = grind (arith, c.in_ok-done.ensures.cause.kept);
}
