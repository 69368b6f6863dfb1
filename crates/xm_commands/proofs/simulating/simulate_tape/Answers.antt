use Rattle.std.proofs.Common.{arith, refl}
use Rattle.xm_commands.proofs.Refusing.{refused_cause}
use Rattle.xm_commands.specs.Refusal.{AsksForInvariants}
use Rattle.xm_commands.specs.declared.command.Command.TheVariants as command
use Rattle.xm_commands.proofs.simulating.simulate_tape.Goals as goal

pub returns-in-Err : goal.returns-in-Err
returns-in-Err g c = λ bytes is read.
    let asks : AsksForInvariants (command.Simulate c.args.it.now) is.doc c.args.prepared.now.design = (omega arith, record { taped = c.args.tape.now; tape = read }) in
    refused_cause bytes (command.Simulate c.args.it.now) _ c.in-Err.refusal (c.in-Err.ensures.err bytes (command.Simulate c.args.it.now) is asks asks) refl refl
