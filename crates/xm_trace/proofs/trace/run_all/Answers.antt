use Rattle.std.proofs.lemmas.Result.{IfOk-weaker}
use Rattle.xm_trace.proofs.Running.{whole_run}
use Rattle.xm_trace.proofs.trace.run_all.Goals as goal

pub returns-clause-moves : goal.returns-clause-moves
returns-clause-moves c =
    let designed = c.design.ensures.designed in
    IfOk-weaker c.run_round.result _ _
    (λ trace moves. whole_run c.one_run.ensures c.args.evaluator.now.net c.args.evaluator.now.order designed.net designed.order c.args.tape.now trace.moves.items c.cycles.result c.cycles.ensures.number moves)
    c.run_round.ensures.moves
