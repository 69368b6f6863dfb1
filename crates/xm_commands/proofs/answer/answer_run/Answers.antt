use Rattle.std.proofs.Common.{refl}
use Rattle.xm_commands.proofs.Ran.{lent_value, output_ended, ran, taped, untaped}
use Rattle.xm_commands.proofs.Refusing.{refused_cause}
use Rattle.xm_commands.specs.declared.command.Command.TheVariants as command
use Rattle.xm_commands.proofs.answer.answer_run.Goals as goal

pub returns-in-Ok : goal.returns-in-Ok
returns-in-Ok g c = λ bytes is.
    let prepared = c.args.prepared.now in
    let read = taped bytes prepared is _ (lent_value prepared.tape c.as_ref.result c.as_ref.ensures.value) c.in-Ok.tape c.in-Ok.ensures.exact in
    let it = ran c.one_run.ensures bytes prepared is c.in-Ok.tape read in
    let said = c.write_run.ensures in
    output_ended c.write_run.result bytes it.text command.Run _ it.is_output said.turned (said.whole it.text it.is_text) (said.front it.text it.is_text) said.unharmed said.cause

pub returns-in-Err : goal.returns-in-Err
returns-in-Err g c = λ bytes is.
    let prepared = c.args.prepared.now in
    let fails = untaped bytes prepared is _ (lent_value prepared.tape c.as_ref.result c.as_ref.ensures.value) c.in-Err.fault c.in-Err.ensures.exact in
    refused_cause bytes command.Run _ c.tape_refusal.result (c.tape_refusal.ensures bytes command.Run is.doc prepared.design is.read is.design tt fails) refl refl
