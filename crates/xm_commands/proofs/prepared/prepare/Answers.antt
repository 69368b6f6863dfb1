use Rattle.xm_commands.proofs.prepared.prepare.Goals as goal

pub returns-in-Ok-clause-err : goal.returns-in-Ok-clause-err
returns-in-Ok-clause-err c = λ it. c.designed.ensures.err c.args.bytes.now it (record { read = c.in-Ok.ensures.exact; valid = c.in-Ok.ensures.valid })

pub returns-in-Err-clause-err : goal.returns-in-Err-clause-err
returns-in-Err-clause-err c = λ it. c.document_refusal.ensures c.args.bytes.now it c.in-Err.ensures.exact
