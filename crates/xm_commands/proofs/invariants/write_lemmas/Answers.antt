use Rattle.std.proofs.Common.{refl}
use Rattle.xm_commands.proofs.Refusing.{refused_cause}
use Rattle.xm_commands.specs.declared.command.Command.TheVariants as command
use Rattle.xm_commands.proofs.invariants.write_lemmas.Goals as goal

pub returns-in-Err : goal.returns-in-Err
returns-in-Err g c = λ bytes is.
    refused_cause bytes command.Inv _ c.elimination_refusal.result
    (c.elimination_refusal.ensures bytes command.Inv is.doc c.args.prepared.now.design c.args.rows.now is.read is.design tt c.requires c.in-Err.ensures.overflow) refl refl
