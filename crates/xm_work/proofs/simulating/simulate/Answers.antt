use Rattle.std.proofs.Common.{◌∙◌, ap}
use denote.Param.Send.{sendable}
use Rattle.std.proofs.Crossing.{crosses}
use Rattle.std.specs.Io.KnownBytes.{Appends}
use Rattle.xm_io.specs.Bytes.{AppendsFront}
use Rattle.xm_io.specs.Lemmas.Fronts.{on_err}
use Rattle.xm_work.proofs.Crossing.{simulation_send}
use Rattle.xm_work.proofs.Telling.{all_written, counts_of_whole, front_of_all, front_of_end, front_of_lines, none_missing_of, these_lines, this_end, totals_of_whole}
use Rattle.xm_work.proofs.simulating.simulate.Goals as goal

pub run_rounds-requires-send-B : goal.run_rounds-requires-send-B
run_rounds-requires-send-B g c κs within = search (simulation_send, sendable, crosses) depth 12

pub returns-in_err-write_end-in-Ok-clause-front : goal.returns-in_err-write_end-in-Ok-clause-front
returns-in_err-write_end-in-Ok-clause-front g c = λ text is.
    let held = g.K.Sink.held c.args.out.now in
    let mid = g.K.Sink.held c.run_rounds.new.out in
    let now = g.K.Sink.held c.write_end.new.out in
    let begun = c.in_ok-begun.ensures.whole in
    let number = c.cycles-cycles.ensures.number in
    on_err c.from_residual-in_err-write_end-in-Ok.result (front_of_end c.args.whole text is held mid now
    (these_lines c.args.whole text is (λ x. Appends held mid x) _ _ begun number c.in-Ok.ensures.text)
    (this_end c.args.whole text is (λ x. AppendsFront mid now x) _ _ (c.in-Ok.ensures.whole ∙ begun)
    (c.in-Ok.ensures.next ∙ number) c.in_err-write_end-in-Ok.ensures.front))

pub returns-in_err-finished-in-Ok-clause-front : goal.returns-in_err-finished-in-Ok-clause-front
returns-in_err-finished-in-Ok-clause-front g c = λ text is.
    let held = g.K.Sink.held c.args.out.now in
    let mid = g.K.Sink.held c.run_rounds.new.out in
    let now = g.K.Sink.held c.write_end.new.out in
    let begun = c.in_ok-begun.ensures.whole in
    let number = c.cycles-cycles.ensures.number in
    on_err c.from_residual-in_err-finished-in-Ok.result (front_of_all c.args.whole text is held mid now
    (all_written c.args.whole text is held mid now
    (these_lines c.args.whole text is (λ x. Appends held mid x) _ _ begun number c.in-Ok.ensures.text)
    (this_end c.args.whole text is (λ x. Appends mid now x) _ _ (c.in-Ok.ensures.whole ∙ begun)
    (c.in-Ok.ensures.next ∙ number) c.in_ok-write_end-in-Ok.ensures.whole)))

pub returns-in_ok-finished-in-Ok-clause-text : goal.returns-in_ok-finished-in-Ok-clause-text
returns-in_ok-finished-in-Ok-clause-text g c = λ text is.
    let held = g.K.Sink.held c.args.out.now in
    let mid = g.K.Sink.held c.run_rounds.new.out in
    let now = g.K.Sink.held c.write_end.new.out in
    let begun = c.in_ok-begun.ensures.whole in
    let number = c.cycles-cycles.ensures.number in
    all_written c.args.whole text is held mid now
    (these_lines c.args.whole text is (λ x. Appends held mid x) _ _ begun number c.in-Ok.ensures.text)
    (this_end c.args.whole text is (λ x. Appends mid now x) _ _ (c.in-Ok.ensures.whole ∙ begun)
    (c.in-Ok.ensures.next ∙ number) c.in_ok-write_end-in-Ok.ensures.whole)

pub returns-in_ok-finished-in-Ok-clause-totals : goal.returns-in_ok-finished-in-Ok-clause-totals
returns-in_ok-finished-in-Ok-clause-totals g c =
    totals_of_whole c.args.whole _ _ c.in_ok-finished-in-Ok.field-0.totals.items
    (c.in-Ok.ensures.whole ∙ c.in_ok-begun.ensures.whole) (c.in-Ok.ensures.next ∙ c.cycles-cycles.ensures.number)
    c.in_ok-finished-in-Ok.ensures.totals

pub returns-in_ok-finished-in-Ok-clause-snapshots : goal.returns-in_ok-finished-in-Ok-clause-snapshots
returns-in_ok-finished-in-Ok-clause-snapshots g c =
    counts_of_whole _ _ c.args.watch _ c.in-Ok.field-0.bench.whole c.args.whole _ _ _ (λ s is. is)
    (c.in-Ok.ensures.whole ∙ c.in_ok-begun.ensures.whole) c.cycles-cycles.ensures.number
    (ap (λ v. v.items) c.in_ok-finished-in-Ok.ensures.snapshots) c.in-Ok.ensures.counts

pub returns-in_ok-finished-in-Ok-clause-none_missing : goal.returns-in_ok-finished-in-Ok-clause-none_missing
returns-in_ok-finished-in-Ok-clause-none_missing g c =
    none_missing_of c.args.watch _ _ _ _ c.cycles-cycles.ensures.number
    (ap (λ v. v.items) c.in_ok-finished-in-Ok.ensures.snapshots) c.in-Ok.ensures.none_missing

pub returns-in-Err-clause-front : goal.returns-in-Err-clause-front
returns-in-Err-clause-front g c = λ text is.
    let held = g.K.Sink.held c.args.out.now in
    let now = g.K.Sink.held c.run_rounds.new.out in
    front_of_lines c.args.whole text is held now now
    (these_lines c.args.whole text is (λ x. AppendsFront held now x) _ _ c.in_ok-begun.ensures.whole
    c.cycles-cycles.ensures.number c.in-Err.ensures.front)
