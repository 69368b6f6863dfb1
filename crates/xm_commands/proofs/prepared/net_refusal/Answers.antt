use Rattle.xm_model.specs.Naming.{naming_of}
use Rattle.xm_commands.proofs.Refusing.{net_refused}
use Rattle.xm_commands.proofs.prepared.net_refusal.Goals as goal

pub returns-in-Ok : goal.returns-in-Ok
returns-in-Ok c = λ bytes it doc read named is. net_refused bytes it c.in-Ok.line.items (naming_of c.args.names.now) doc c.args.fault.now read named is c.in-Ok.ensures
