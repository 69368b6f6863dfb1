use Rattle.std.proofs.Common.{List, subst, sym}
use Rattle.xm_commands.proofs.Ran.{ran}
use Rattle.xm_commands.proofs.Simulated.{all_told, not_run}
use Rattle.xm_commands.specs.Change.{change}
use Rattle.xm_commands.specs.Inner.Simulating.{AreTaken}
use Rattle.xm_parts.specs.declared.row.Snapshot.{Snapshot}
use Rattle.xm_commands.proofs.simulating.write_watched.Goals as goal

pub returns-in-Ok : goal.returns-in-Ok
returns-in-Ok g c = λ bytes is read.
    let it = c.args.prepared.now in
    let tape = c.args.tape.now in
    let run = ran c.one_run.ensures bytes it is tape read in
    let said = c.write_rest.ensures in
    let taken = subst (λ (xs : List Snapshot). AreTaken it.design.net tape c.args.it.now.watch xs) (sym c.as_slice.ensures.value) c.in-Ok.ensures.taken in
    let shown = taken.shown run.states run.frames run.run in
    all_told bytes it is tape read c.args.it.now run c.lemmas_hold.ensures c.requires.fits c.requires.watched c.args.lines.now.items c.requires.lines c.write_rest.result
    (change g.K.Sink.held g.K.Sink.faults c.args.out.now c.write_rest.new.out) (g.K.Sink.held c.write_simulated.new.out) (g.K.Sink.faults c.write_simulated.new.out) c.as_slice.result.now taken.cycles
    (c.in-Ok.ensures.whole run.text run.is_text) c.in-Ok.ensures.unharmed said.turned (said.whole run.states shown) (said.front run.states shown) said.unharmed said.cause

pub returns-in-Err : goal.returns-in-Err
returns-in-Err g c = λ bytes is read.
    let it = c.args.prepared.now in
    let run = ran c.one_run.ensures bytes it is c.args.tape.now read in
    not_run bytes it is c.args.tape.now read c.args.it.now run c.lemmas_hold.ensures c.requires.fits c.requires.watched c.args.lines.now.items c.requires.lines c.in-Err.refusal
    (change g.K.Sink.held g.K.Sink.faults c.args.out.now c.write_simulated.new.out) (c.in-Err.ensures.front run.text run.is_text) c.in-Err.ensures.cause
