use Rattle.xm_commands.proofs.Refusing.{flow_fault}
use Rattle.xm_commands.proofs.simulating.lines_of.Goals as goal

pub returns-in-Err-clause-err : goal.returns-in-Err-clause-err
returns-in-Err-clause-err c = λ bytes it is flow asks.
    let fault = flow_fault c.flow.result c.args.prepared.now.design c.in-Err.fault c.in-Err.is c.flow.ensures.wide in
    c.flow_refusal.ensures bytes it is.doc c.args.prepared.now.design is.read is.design flow fault

pub returns-in-Ok-clause-err : goal.returns-in-Ok-clause-err
returns-in-Ok-clause-err c = λ bytes it is flow asks. c.lines_of_rows.ensures.err bytes it is asks
