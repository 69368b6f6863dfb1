use Rattle.std.proofs.Common.{◌++◌, [], sym}
use Rattle.std.proofs.lemmas.List.{append-nil}
use Rattle.xm_commands.proofs.Simulated.{front_longer, lines_to}
use Rattle.xm_io.specs.Lemmas.Appending.{Appends-then}
use Rattle.xm_io.specs.Lemmas.Fronts.{front_more, on_err}
use Rattle.xm_model.specs.Naming.{naming_of}
use Rattle.xm_commands.proofs.simulating.write_rest.Goals as goal

pub returns-in_err-write_bytes-clause-front : goal.returns-in_err-write_bytes-clause-front
returns-in_err-write_bytes-clause-front g c = λ s shown.
    let rest = lines_to (naming_of c.args.prepared.now.names) c.args.prepared.now.design s c.args.snapshots.now in
    on_err c.from_residual.result (front_longer (g.K.Sink.held c.args.out.now) (g.K.Sink.held c.write_bytes.new.out) c.args.lines.now.items rest (rw c.as_bytes.ensures at c.in_err-write_bytes.ensures.front))

pub returns-in_err-write_snapshots-clause-front : goal.returns-in_err-write_snapshots-clause-front
returns-in_err-write_snapshots-clause-front g c = λ s shown.
    let lines = c.args.lines.now.items in
    let rest = lines_to (naming_of c.args.prepared.now.names) c.args.prepared.now.design s c.args.snapshots.now in
    on_err c.from_residual-in_err-write_snapshots.result
    (front_more (g.K.Sink.held c.args.out.now) (g.K.Sink.held c.write_bytes.new.out) (g.K.Sink.held c.write_snapshots.new.out) lines rest [] (lines ++ rest) (sym (append-nil (lines ++ rest)))
    (rw c.as_bytes.ensures at c.in_ok-write_bytes.ensures.whole) (c.in_err-write_snapshots.ensures.front s shown))

pub returns-clause-whole : goal.returns-clause-whole
returns-clause-whole g c = λ s shown.
    let rest = lines_to (naming_of c.args.prepared.now.names) c.args.prepared.now.design s c.args.snapshots.now in
    Appends-then (g.K.Sink.held c.args.out.now) (g.K.Sink.held c.write_bytes.new.out) (g.K.Sink.held c.write_snapshots.new.out) c.args.lines.now.items rest (rw c.as_bytes.ensures at c.in_ok-write_bytes.ensures.whole) (c.in_ok-write_snapshots.ensures.whole s shown)
