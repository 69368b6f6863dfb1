use Rattle.std.specs.Prelude.{slice_index_or}
use Rattle.std.proofs.Common.{[], ℕ, ap₂, ◌≡◌, ◌≤◌, ◌<◌, ◌+◌, ◌-◌, ◌∙◌, ◌++◌, ap, arith, length, List, suc}
use Rattle.xm_model.specs.Views.{signals_of}
use Rattle.xm_model.specs.declared.state.Wire.{Wire}
use Rattle.xm_tape.specs.Taped.{Taped, cycles_of, rows_of}
use Rattle.xm_trace.proofs.Running.{moves_go, state_goes}
use Rattle.xm_trace.specs.Moves.{cycle_moves}
use Rattle.xm_trace.proofs.trace.run_round.Goals as goal

pub loop-t-preserved : goal.loop-t-preserved
loop-t-preserved c =
    let net = c.args.evaluator.now.net in
    let is_net = c.design-design.ensures.designed.net in
    let below : c.loop-t.t < cycles_of c.args.tape.now = omega arith in
    let after : c.args.from ≤ c.loop-t.t = omega arith in
    let wires = c.step.new.frame.wires.items in
    let is_row : c.row.result.now ≡ slice_index_or (rows_of c.args.tape.now) c.loop-t.t [] =
    c.row.ensures ∙ ap₂ (λ (tape : Taped) (t : ℕ). slice_index_or (rows_of tape) t []) c.loop-t.invariant.tape c.loop-t.invariant.row in
    let whole : length c.as_slice.result.now ≡ net.channels = ap length c.as_slice.ensures ∙ c.step.ensures.frame.whole in
    let later : c.loop-t.t + 1 - c.args.from ≡ suc (c.loop-t.t - c.args.from) = omega arith in
    let noted = c.note_moves.ensures.items ∙ ap (λ (xs : List Wire). c.loop-t.moves.items ++ cycle_moves (signals_of xs) c.loop-t.t (length xs)) c.as_slice.ensures in
    record {
      roomy = c.step.ensures.roomy;
      rooms = λ p m there. c.step.ensures.rooms p m there ∙ c.loop-t.invariant.rooms p m there;
      cells_room = c.step.ensures.room ∙ c.loop-t.invariant.cells_room;
      wires = c.step.ensures.frame.whole;
      tape = c.advance.ensures.tape ∙ c.loop-t.invariant.tape;
      row = c.advance.ensures.cycle ∙ ap (λ (t : ℕ). t + 1) c.loop-t.invariant.row;
      room = omega (arith, c.note_moves.ensures.room, c.loop-t.invariant.room);
      few = rw later (omega (arith, c.note_moves.ensures.few, c.loop-t.invariant.few, whole));
      state = λ s φ run.
          state_goes net is_net c.args.tape.now c.loop-t.t below s φ run c.loop-t.state.cells.items c.row.result.now wires (c.loop-t.invariant.state s φ run) is_row c.step.ensures.only c.step.new.state.cells.items c.step.ensures.next;
      moves = λ s φ run.
          moves_go net is_net c.args.tape.now c.loop-t.t below s φ run c.loop-t.state.cells.items c.row.result.now wires (c.loop-t.invariant.state s φ run) is_row c.step.ensures.only
          c.args.from c.loop-t.moves.items c.note_moves.new.moves.items after c.step.ensures.frame.whole (c.loop-t.invariant.moves s φ run) noted;
    }
