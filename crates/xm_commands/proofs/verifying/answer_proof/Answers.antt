use Rattle.std.proofs.Common.{refl}
use Rattle.xm_commands.proofs.Refusing.{refused_cause}
use Rattle.xm_commands.proofs.Verified.{persist_fault, proof_found}
use Rattle.xm_commands.specs.declared.command.Command.TheVariants as command
use Rattle.xm_commands.proofs.verifying.answer_proof.Goals as goal

pub returns-in-Err : goal.returns-in-Err
returns-in-Err g c = λ bytes is.
    refused_cause bytes command.Verify _ c.persistency_refusal.result
    (c.persistency_refusal.ensures bytes command.Verify is.doc c.args.prepared.now.design is.read is.names is.design (proof_found bytes c.args.prepared.now is _ c.requires.proof) (persist_fault c.persist.result c.args.prepared.now.design.net c.in-Err.fault c.in-Err.is c.persist.ensures.refused)) refl refl
