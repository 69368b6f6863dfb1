use Rattle.std.proofs.Common.{refl}
use Rattle.xm_commands.proofs.Refusing.{flow_fault, refused_cause}
use Rattle.xm_commands.proofs.Verified.{proof_found}
use Rattle.xm_commands.specs.declared.command.Command.TheVariants as command
use Rattle.xm_commands.proofs.verifying.answer_persistent.Goals as goal

pub returns-in-Err : goal.returns-in-Err
returns-in-Err g c = λ bytes is.
    let fault = flow_fault c.flow.result c.args.prepared.now.design c.in-Err.fault c.in-Err.is c.flow.ensures.wide in
    refused_cause bytes command.Verify _ c.flow_refusal.result
    (c.flow_refusal.ensures bytes command.Verify is.doc c.args.prepared.now.design is.read is.design (proof_found bytes c.args.prepared.now is _ c.requires.proof, c.requires.granted) fault) refl refl
