use Rattle.std.proofs.Common.{refl}
use Rattle.xm_commands.proofs.Refusing.{flow_fault, refused_cause}
use Rattle.xm_commands.proofs.Verified.{persist_fault}
use Rattle.xm_commands.specs.declared.command.Command.TheVariants as command
use Rattle.xm_commands.proofs.prove.write_search.Goals as goal

pub returns-in-Err-flow : goal.returns-in-Err-flow
returns-in-Err-flow g c =
    let is = c.requires.prepared in
    let fault = flow_fault c.flow.result c.args.prepared.now.design c.in-Err-flow.fault c.in-Err-flow.is c.flow.ensures.wide in
    refused_cause c.args.bytes.now (command.Prove c.args.budget) _ c.flow_refusal.result
    (c.flow_refusal.ensures c.args.bytes.now (command.Prove c.args.budget) is.doc c.args.prepared.now.design is.read is.design c.in-Ok.ensures.granted fault) refl refl

pub returns-in-Err : goal.returns-in-Err
returns-in-Err g c =
    let is = c.requires.prepared in
    let fault = persist_fault c.persist.result c.args.prepared.now.design.net c.in-Err.fault c.in-Err.is c.persist.ensures.refused in
    refused_cause c.args.bytes.now (command.Prove c.args.budget) _ c.persistency_refusal.result
    (c.persistency_refusal.ensures c.args.bytes.now (command.Prove c.args.budget) is.doc c.args.prepared.now.design is.read is.names is.design tt fault) refl refl
