use Rattle.std.proofs.Common.{refl}
use Rattle.xm_commands.proofs.Whys.{not_read, read_whole}
use Rattle.xm_commands.specs.Change.{change}
use Rattle.xm_commands.specs.declared.command.Command.TheVariants as command
use Rattle.xm_commands.proofs.top.obey_simulation.Goals as goal

pub returns-in-Ok : goal.returns-in-Ok
returns-in-Ok g c =
    read_whole (command.Simulate c.args.it.now) _ _ c.in-Ok.bytes.items c.answer_simulation.result c.in-Ok.ensures.0 c.in-Ok.ensures.1 (rw c.as_bytes.ensures at c.answer_simulation.ensures)

pub returns-in-Err : goal.returns-in-Err
returns-in-Err g c =
    not_read (command.Simulate c.args.it.now) (change g.S.Source.left g.S.Source.faults c.args.source.now c.read.new.source) (change g.K.Sink.held g.K.Sink.faults c.args.out.now c.args.out.now) c.in-Err.refusal c.in-Err.ensures refl refl
