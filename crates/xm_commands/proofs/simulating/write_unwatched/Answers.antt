use Rattle.std.proofs.Common.{Err, Ok, refl}
use Rattle.xm_commands.proofs.Ran.{ran}
use Rattle.xm_commands.proofs.Simulated.{unwatched}
use Rattle.xm_commands.specs.Change.{change}
use Rattle.xm_commands.specs.declared.command.Outcome.TheVariants as outcome
use Rattle.xm_commands.proofs.simulating.write_unwatched.Goals as goal

pub returns-in-Ok : goal.returns-in-Ok
returns-in-Ok g c = λ bytes is read.
    let it = c.args.prepared.now in
    let run = ran c.one_run.ensures bytes it is c.args.tape.now read in
    unwatched bytes it is c.args.tape.now read c.args.it.now run (Ok outcome.Yes) (change g.K.Sink.held g.K.Sink.faults c.args.out.now c.write_simulated.new.out) c.requires.unwatched refl (c.in-Ok.ensures.whole run.text run.is_text) tt
    c.in-Ok.ensures.unharmed tt

pub returns : goal.returns
returns g c = λ bytes is read.
    let it = c.args.prepared.now in
    let run = ran c.one_run.ensures bytes it is c.args.tape.now read in
    unwatched bytes it is c.args.tape.now read c.args.it.now run (Err c.in-Err.refusal) (change g.K.Sink.held g.K.Sink.faults c.args.out.now c.write_simulated.new.out) c.requires.unwatched tt tt
    (c.in-Err.ensures.front run.text run.is_text) tt c.in-Err.ensures.cause
