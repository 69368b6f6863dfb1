use Rattle.std.proofs.Common.{refl}
use Rattle.xm_netlist.specs.Documented.{doc_of}
use Rattle.xm_commands.proofs.Refusing.{net_fault}
use Rattle.xm_commands.proofs.prepared.designed.Goals as goal

pub returns-in-Err-clause-err : goal.returns-in-Err-clause-err
returns-in-Err-clause-err c = λ bytes it is.
    c.net_refusal.ensures bytes it (doc_of c.args.document) is.read refl (net_fault c.new.result c.args.document.net _ c.in-Err.fault c.in-Err.is c.new.ensures.refused c.new.ensures.looped)
