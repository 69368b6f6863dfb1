use Rattle.std.proofs.Common.{subst, sym}
use Rattle.xm_commands.specs.Output.{proof_of}
use Rattle.xm_commands.specs.Refusal.{Refuses, of_form}
use Rattle.xm_commands.specs.declared.command.Command.TheVariants as command
use Rattle.xm_json.specs.Gives.{FailsBy}
use Rattle.xm_proof_reader.specs.Gives.{path_of}
use Rattle.xm_proof_reader.specs.declared.fault.ProofFault.{ProofFault}
use Rattle.xm_commands.proofs.verifying.form_refusal.Goals as goal

pub returns-in-Ok : goal.returns-in-Ok
returns-in-Ok c = λ bytes doc design read is fails.
    let fault = subst (λ (f : ProofFault). FailsBy path_of f (proof_of doc design)) c.in-Form.is fails in
    subst (Refuses bytes command.Verify 5) (sym c.in-Ok.ensures) (of_form doc design _ read is fault)
