use Rattle.std.proofs.Common.{◌≡◌, ◌+◌, ◌-◌, ◌*◌, ◌≤◌, ◌∙◌, length, arith, suc, take}
use Rattle.xm_model.specs.Views.{signals_of}
use Rattle.xm_trace.specs.Inner.Labels.{label_text, labelled_of, move_room}
use Rattle.xm_trace.proofs.AtOnce.{sum_in_cycle_few, sums_more, texts_more}
use Rattle.xm_trace.proofs.cycle_lines.put_moves.Goals as goal

pub put_counted-end-requires-clause-few : goal.put_counted-end-requires-clause-few
put_counted-end-requires-clause-few c k d below within =
    let so_far = c.loop-c.invariant.sums k d below within in
    let before = c.requires.few k d below within in
    let few = sum_in_cycle_few (signals_of c.args.wires.now) c.args.cycle c.loop-c.c k d in
    omega (arith, so_far, before, few, c.requires.table.few_channels, c.loop-c-test.true)

pub loop-c-preserved : goal.loop-c-preserved
loop-c-preserved c =
    let wires = c.args.wires.now in
    let before = c.loop-c.invariant in
    let left : length wires - c.loop-c.c ≡ suc (length wires - (c.loop-c.c + 1)) = omega (arith, c.loop-c-test.true) in
    let room : suc (length wires - (c.loop-c.c + 1)) * move_room c.args.texts.now ≡ move_room c.args.texts.now + (length wires - (c.loop-c.c + 1)) * move_room c.args.texts.now = omega arith in
    let had : c.loop-c.end + suc (length wires - (c.loop-c.c + 1)) * move_room c.args.texts.now ≤ c.args.at + length wires * move_room c.args.texts.now = rw left at before.few in
    record {
      text = texts_more wires c.args.cycle c.loop-c.c _ c.loop-c-test.true c.move_on-it.result c.move_on-it.ensures (label_text (labelled_of c.args.texts.now)) (take c.args.at c.args.out.now) (take c.loop-c.end c.loop-c.out) _ before.text c.put_counted-end.ensures.text;
      few = omega (arith, c.put_counted-end.ensures.within, had, room);
      len = c.put_counted-end.ensures.len ∙ before.len;
      sums = λ k d below within.
          sums_more wires c.args.cycle c.loop-c.c _ c.loop-c-test.true c.move_on-it.result c.move_on-it.ensures k d _ _ _ (before.sums k d below within) (c.put_counted-end.ensures.sums k d below within);
    }
