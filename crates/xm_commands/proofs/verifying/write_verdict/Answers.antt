use Rattle.std.proofs.Common.{inl, refl}
use Rattle.xm_commands.proofs.verifying.write_verdict.Goals as goal

pub returns-in-Err : goal.returns-in-Err
returns-in-Err g c = λ bytes is. (refl, inl refl)
