use Rattle.std.proofs.Common.{refl}
use Rattle.xm_commands.proofs.Ran.{lent_value, taped, untaped}
use Rattle.xm_commands.proofs.Refusing.{refused_cause}
use Rattle.xm_commands.specs.declared.command.Command.TheVariants as command
use Rattle.xm_commands.proofs.simulating.simulate_prepared.Goals as goal

pub returns-in-Ok : goal.returns-in-Ok
returns-in-Ok g c = λ bytes is.
    let prepared = c.args.prepared.now in
    c.simulate_tape.ensures bytes is (taped bytes prepared is _ (lent_value prepared.tape c.as_ref.result c.as_ref.ensures.value) c.in-Ok.tape c.in-Ok.ensures.exact)

pub returns-in-Err : goal.returns-in-Err
returns-in-Err g c = λ bytes is.
    let prepared = c.args.prepared.now in
    let it = command.Simulate c.args.it.now in
    let fails = untaped bytes prepared is _ (lent_value prepared.tape c.as_ref.result c.as_ref.ensures.value) c.in-Err.fault c.in-Err.ensures.exact in
    refused_cause bytes it _ c.tape_refusal.result (c.tape_refusal.ensures bytes it is.doc prepared.design is.read is.design tt fails) refl refl
