use Rattle.std.proofs.Common.{inl, refl}
use Rattle.xm_commands.proofs.Verified.{verdict_printed}
use Rattle.xm_proof.specs.Argument.{argument_of}
use Rattle.xm_commands.proofs.verifying.write_checked.Goals as goal

pub returns-in-Ok : goal.returns-in-Ok
returns-in-Ok g c = λ bytes is.
    c.write_said.ensures bytes is (verdict_printed bytes c.args.prepared.now is (argument_of c.args.proof.now) c.in-Ok.verdict c.args.rows.now c.requires.proof c.requires.granted c.requires.rows c.in-Ok.ensures.exact)

pub returns-in-Err : goal.returns-in-Err
returns-in-Err g c = λ bytes is. (refl, inl refl)
