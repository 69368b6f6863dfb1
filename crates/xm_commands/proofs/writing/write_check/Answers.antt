use Rattle.std.proofs.Common.{refl, inl}
use Rattle.xm_commands.proofs.Checked.{checked}
use Rattle.xm_commands.proofs.Written.{written}
use Rattle.xm_commands.specs.declared.command.Command.TheVariants as command
use Rattle.xm_commands.specs.declared.command.Outcome.TheVariants as outcome
use Rattle.xm_commands.proofs.writing.write_check.Goals as goal

pub returns-in-Ok : goal.returns-in-Ok
returns-in-Ok g c = λ bytes is.
    let said = c.write_text.ensures in
    written c.write_text.result bytes c.in-Ok.text.items command.Check outcome.Yes _ (checked bytes c.args.prepared.now is c.in-Ok.text.items c.in-Ok.ensures) said.turned said.whole said.front said.cause said.only

pub returns-in-Err : goal.returns-in-Err
returns-in-Err g c = λ bytes is. (refl, inl refl)
