use Rattle.std.proofs.Common.{subst, sym}
use Rattle.serde_json.specs.View.{view}
use Rattle.xm_netlist.specs.Documented.{doc_of}
use Rattle.xm_netlist.specs.Valid.{IsValid}
use Rattle.xm_commands.proofs.Proving.{again_by, text_by, valid_with}
use Rattle.xm_commands.proofs.found.document_text.Goals as goal

pub write_document-requires : goal.write_document-requires
write_document-requires c =
    subst IsValid (sym c.with_proof.ensures) (valid_with (doc_of c.in-Ok.document) (view c.args.proof) c.in-Ok.ensures.valid c.requires)

pub returns-in-Ok-clause-text : goal.returns-in-Ok-clause-text
returns-in-Ok-clause-text c = λ doc read.
    text_by c.args.bytes.now (doc_of c.in-Ok.document) doc (doc_of c.with_proof.result) (view c.args.proof) c.write_document.result c.with_proof.ensures c.in-Ok.ensures.exact read c.write_document.ensures.text

pub returns-in-Ok-clause-again : goal.returns-in-Ok-clause-again
returns-in-Ok-clause-again c = λ doc read.
    again_by c.args.bytes.now (doc_of c.in-Ok.document) doc (doc_of c.with_proof.result) (view c.args.proof) c.write_document.result c.with_proof.ensures c.in-Ok.ensures.exact read c.write_document.ensures.again
