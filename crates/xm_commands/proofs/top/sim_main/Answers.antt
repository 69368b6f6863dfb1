use Rattle.std.proofs.Common.{ap}
use Rattle.xm_commands.proofs.Served.{served}
use Rattle.xm_commands.specs.Calls.{call_of}
use Rattle.xm_commands.specs.Change.{change}
use Rattle.xm_commands.proofs.top.sim_main.Goals as goal

pub returns : goal.returns
returns g c =
    served (call_of c.args.words.now) (change g.S.Source.left g.S.Source.faults c.args.source.now c.work_words-ended.new.source) (change g.K.Sink.held g.K.Sink.faults c.args.out.now c.work_words-ended.new.out)
    (change g.E.Sink.held g.E.Sink.faults c.args.err.now c.conclude.new.err) c.conclude.result c.no_loop.ensures c.ends_exclude.ensures c.one_output.ensures c.work_words-ended.result
    (λ same. ap g.K.Sink.faults same) c.work_words-ended.ensures c.conclude.ensures
