use Rattle.std.proofs.Common.{◌≡◌, [], arith}
use Rattle.std.specs.Prelude.{slice_index_or}
use Rattle.xm_model.specs.Frame.{IsFrame}
use Rattle.xm_model.specs.Run.{ChoicesFit}
use Rattle.xm_model.specs.Views.{choice_at, content_at, signals_of}
use Rattle.xm_tape.specs.Taped.{rows_of}
use Rattle.xm_tests.proofs.suites.part_runs.agree.Goals as goal

pub are_cycles-requires-clause-rows : goal.are_cycles-requires-clause-rows
are_cycles-requires-clause-rows c =
    let net = c.args.design.now.net in
    let cells = c.in_ok-state.state.cells.items in let wires = c.frame.new.out.wires.items in let drawn = c.row.result.now in
    let is_frame : IsFrame net (content_at cells) (choice_at net.prims drawn) (signals_of wires) = rw c.in_ok-evaluator.ensures at c.frame.ensures.frame.frame in
    let row : drawn ≡ slice_index_or (rows_of c.args.tape.now) 0 [] = rw c.in_ok-drawn.ensures at c.row.ensures in
    let fit : ChoicesFit net (choice_at net.prims drawn) = rw row (c.requires.fits 0 (let n = c.requires.cycles in omega arith)) in
    rw c.in_ok-evaluator.ensures (record {
      state = content_at cells;
      choices = choice_at net.prims drawn;
      frame = signals_of wires;
      is_frame = is_frame;
      fitting = c.in_ok-state.ensures.fitting;
      fit = fit;
      of = c.in_ok-rows.ensures;
    })
