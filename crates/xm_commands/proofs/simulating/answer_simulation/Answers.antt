use Rattle.std.proofs.Common.{refl}
use Rattle.xm_commands.proofs.Refusing.{refused_cause}
use Rattle.xm_commands.specs.declared.command.Command.TheVariants as command
use Rattle.xm_commands.proofs.simulating.answer_simulation.Goals as goal

pub returns-in-Err : goal.returns-in-Err
returns-in-Err g c = refused_cause c.args.bytes.now (command.Simulate c.args.it.now) _ c.in-Err.refusal (c.in-Err.ensures.err (command.Simulate c.args.it.now)) refl refl
