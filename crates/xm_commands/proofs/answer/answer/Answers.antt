use Rattle.std.proofs.Common.{refl}
use Rattle.xm_commands.proofs.Refusing.{refused_cause}
use Rattle.xm_commands.proofs.answer.answer.Goals as goal

pub returns-in-Err : goal.returns-in-Err
returns-in-Err g c = refused_cause c.args.bytes.now c.args.command _ c.in-Err.refusal (c.in-Err.ensures.err c.args.command) refl refl
