use Rattle.xm_commands.proofs.Proving.{can_be_written, proof_output}
use Rattle.xm_commands.proofs.Written.{written}
use Rattle.xm_commands.specs.declared.command.Command.TheVariants as command
use Rattle.xm_commands.specs.declared.command.Outcome.TheVariants as outcome
use Rattle.xm_proof.specs.Argument.{argument_of}
use Rattle.serde_json.specs.View.{view}
use Rattle.xm_commands.proofs.found.write_proved.Goals as goal

pub proof_value-requires : goal.proof_value-requires
proof_value-requires g c =
    can_be_written c.args.bytes.now c.args.prepared.now c.requires.prepared c.names_tell.ensures c.invariants_can_be_written.ensures
    (argument_of c.args.proof.now) c.requires.cited c.requires.form

pub document_text-requires : goal.document_text-requires
document_text-requires g c = c.in-Ok.ensures.part

pub returns-in-Ok-document_text : goal.returns-in-Ok-document_text
returns-in-Ok-document_text g c = λ budget full.
    let is = c.requires.prepared in
    let said = c.write_text.ensures in
    let text = c.in-Ok-document_text.text.items in
    let output = proof_output c.args.bytes.now c.args.prepared.now is budget (argument_of c.args.proof.now) (view c.in-Ok.value) text c.requires.cited full c.in-Ok.ensures
    (c.in-Ok-document_text.ensures.text is.doc is.read) (c.in-Ok-document_text.ensures.again is.doc is.read) in
    written c.write_text.result c.args.bytes.now text (command.Prove budget) outcome.Yes _ output said.turned said.whole said.front said.cause said.only
