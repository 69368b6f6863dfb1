use Rattle.std.proofs.Common.{◌∙◌, ap, arith, refl, sym}
use Rattle.std.proofs.lemmas.List.{take_all}
use Rattle.std.proofs.lemmas.Option.{slice_get_read}
use Rattle.xm_commands.proofs.Simulated.{lines_more, lines_split, lines_to}
use Rattle.xm_io.specs.Lemmas.Appending.{Appends-then}
use Rattle.xm_io.specs.Lemmas.Fronts.{appends_nothing, appends_same, front_more, on_err}
use Rattle.xm_model.specs.Naming.{naming_of}
use Rattle.xm_commands.proofs.simulating.write_snapshots.Goals as goal

pub loop-k-init : goal.loop-k-init
loop-k-init g c = record { unharmed = refl; written = λ s shown. appends_nothing _ }

pub loop-k-preserved : goal.loop-k-preserved
loop-k-preserved g c =
    let xs = c.args.snapshots.now in
    let x = c.index-snapshots-k.result in
    record {
      unharmed = c.in_ok-write_snapshot.ensures.unharmed ∙ c.loop-k.invariant.unharmed;
      written = λ s shown.
          let names = naming_of c.args.names.now in
          let design = c.args.design.now in
          let at = slice_get_read xs _ c.loop-k.k x refl c.loop-k-test.true c.index-snapshots-k.is in
          appends_same _ _ _ _ (sym (lines_more names design s xs c.loop-k.k x c.loop-k-test.true c.index-snapshots-k.is))
          (Appends-then (g.K.Sink.held c.args.out.now) (g.K.Sink.held c.loop-k.out) (g.K.Sink.held c.write_snapshot.new.out) _ _ (c.loop-k.invariant.written s shown) (c.in_ok-write_snapshot.ensures.whole (s x.cycle) (shown c.loop-k.k x at)));
    }

pub returns-in_err-write_snapshot-clause-front : goal.returns-in_err-write_snapshot-clause-front
returns-in_err-write_snapshot-clause-front g c = λ s shown.
    let xs = c.args.snapshots.now in
    let x = c.index-snapshots-k.result in
    let at = slice_get_read xs _ c.loop-k.k x refl c.loop-k-test.true c.index-snapshots-k.is in
    on_err c.from_residual.result
    (front_more (g.K.Sink.held c.args.out.now) (g.K.Sink.held c.loop-k.out) (g.K.Sink.held c.write_snapshot.new.out) _ _ _ _
    (lines_split (naming_of c.args.names.now) c.args.design.now s xs c.loop-k.k x c.loop-k-test.true c.index-snapshots-k.is) (c.loop-k.invariant.written s shown) (c.in_err-write_snapshot.ensures.front (s x.cycle) (shown c.loop-k.k x at)))

pub returns-clause-whole : goal.returns-clause-whole
returns-clause-whole g c = λ s shown.
    appends_same _ _ _ _ (ap (lines_to (naming_of c.args.names.now) c.args.design.now s) (take_all c.loop-k.k c.args.snapshots.now (omega arith))) (c.loop-k.invariant.written s shown)
