use Rattle.std.proofs.Common.{inl, refl}
use Rattle.xm_commands.proofs.Verified.{said_printed}
use Rattle.xm_commands.proofs.Written.{written}
use Rattle.xm_commands.specs.declared.command.Command.TheVariants as command
use Rattle.xm_commands.proofs.verifying.write_said.Goals as goal

pub returns-in-Ok : goal.returns-in-Ok
returns-in-Ok g c = λ bytes is it.
    let said = c.write_text.ensures in
    written c.write_text.result bytes c.in-Ok.text.items command.Verify c.outcome.result _ (said_printed bytes c.args.prepared.now c.args.verdict c.outcome.result c.in-Ok.text.items is it c.outcome.ensures c.in-Ok.ensures) said.turned said.whole said.front said.cause said.only

pub returns-in-Err : goal.returns-in-Err
returns-in-Err g c = λ bytes is it. (refl, inl refl)
