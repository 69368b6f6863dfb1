use Rattle.std.specs.Prelude.{slice_index_or}
use Rattle.std.proofs.Common.{[], ◌≡◌, ◌<◌, ◌∙◌, ℕ, List, ap, ap₂, arith, length, refl, subst, sym}
use Rattle.xm_model.specs.Views.{signals_of}
use Rattle.xm_model.specs.declared.state.Wire.{Wire}
use Rattle.xm_tape.specs.Taped.{cycles_of, rows_of}
use Rattle.xm_trace.proofs.AtOnce.{line_made, one_round}
use Rattle.xm_trace.proofs.RoundAdded.{had_more}
use Rattle.xm_trace.proofs.Running.{moved_same, state_goes}
use Rattle.xm_trace.specs.Inner.Labels.{labelled_of}
use Rattle.xm_trace.specs.Moves.{cycle_moves, round_moves}
use Rattle.xm_trace.specs.RunTextState.{RunTextState}
use Rattle.xm_trace.proofs.run_text.RunText.run_cycle.Goals as goal

pub overflow_add-self : goal.overflow_add-self
overflow_add-self c =
    let same : c.self.inside.cycles ≡ c.args.self.now.cycles = ap (λ (t : RunTextState). t.cycles) c.self.view_is in
    omega (arith, same, c.requires.counted)

pub returns-clause-here : goal.returns-clause-here
returns-clause-here c =
    let net = c.args.evaluator.now.net in
    let is_net = c.design.ensures.designed.net in
    let t = c.self.inside.cycles in
    let now = c.args.self.now in
    let same : t ≡ now.cycles = ap (λ (x : RunTextState). x.cycles) c.self.view_is in
    let channels : c.self.inside.channels ≡ now.channels = ap (λ (x : RunTextState). x.channels) c.self.view_is in
    let place : c.args.rows.now.cycle ≡ t = c.requires.row ∙ sym same in
    let is_row : c.row.result.now ≡ slice_index_or (rows_of c.args.rows.now.tape) t [] = c.row.ensures ∙ ap (λ (i : ℕ). slice_index_or (rows_of c.args.rows.now.tape) i []) place in
    let below : t < cycles_of c.args.rows.now.tape = omega (arith, same, c.requires.within) in
    let wires = c.step_running.new.frame.frame.wires.items in
    let lent = c.as_slice.result.now in
    let whole : length lent ≡ net.channels = ap length c.as_slice.ensures ∙ c.step_running.ensures.frame.whole in
    let many : c.self.inside.channels ≡ length lent = channels ∙ c.requires.here.channels ∙ sym whole in
    record {
      channels = channels ∙ c.requires.here.channels;
      had = λ s φ run.
          let moved = moved_same net is_net c.args.rows.now.tape t below s φ run c.args.running.now.slots.items c.row.result.now wires (λ p. c.requires.here.cells s φ run p ∙ ap (λ (i : ℕ). s i p) (sym same)) is_row c.step_running.ensures.only c.step_running.ensures.frame.whole in
          let part : cycle_moves (signals_of lent) t (length lent) ≡ round_moves φ now.channels now.cycles 1 =
          ap (λ (xs : List Wire). cycle_moves (signals_of xs) t (length xs)) c.as_slice.ensures
          ∙ moved ∙ one_round φ t net.channels
          ∙ ap₂ (λ (n i : ℕ). round_moves φ n i 1) (sym c.requires.here.channels) same in
          had_more now _ c.self.view_is φ 1 (round_moves φ now.channels now.cycles 1) (cycle_moves (signals_of lent) t (length lent)) c.as_mut_slice.result.now c.put_line.new.sums
          (record { had = c.requires.here.had s φ run; moves = refl }) c.as_mut_slice.ensures.value part c.put_line.auto.sums
          (λ k d under within. c.put_line.ensures.sums k d (subst (λ (n : ℕ). k < n) many under) within);
      cells = λ s φ run.
          state_goes net is_net c.args.rows.now.tape t below s φ run c.args.running.now.slots.items c.row.result.now wires (λ p. c.requires.here.cells s φ run p ∙ ap (λ (i : ℕ). s i p) (sym same)) is_row c.step_running.ensures.only c.step_running.new.running.slots.items c.step_running.ensures.next;
      roomy = c.step_running.ensures.roomy;
    }

pub returns-clause-lines : goal.returns-clause-lines
returns-clause-lines c names s φ are run =
    let net = c.args.evaluator.now.net in
    let is_net = c.design.ensures.designed.net in
    let t = c.self.inside.cycles in
    let now = c.args.self.now in
    let same : t ≡ now.cycles = ap (λ (x : RunTextState). x.cycles) c.self.view_is in
    let place : c.args.rows.now.cycle ≡ t = c.requires.row ∙ sym same in
    let is_row : c.row.result.now ≡ slice_index_or (rows_of c.args.rows.now.tape) t [] = c.row.ensures ∙ ap (λ (i : ℕ). slice_index_or (rows_of c.args.rows.now.tape) i []) place in
    let below : t < cycles_of c.args.rows.now.tape = omega (arith, same, c.requires.within) in
    let wires = c.step_running.new.frame.frame.wires.items in
    let moved = moved_same net is_net c.args.rows.now.tape t below s φ run c.args.running.now.slots.items c.row.result.now wires (λ p. c.requires.here.cells s φ run p ∙ ap (λ (i : ℕ). s i p) (sym same)) is_row c.step_running.ensures.only c.step_running.ensures.frame.whole in
    line_made names (labelled_of c.args.texts.now) are φ now.cycles t net.channels _ c.args.lines.now.items c.put_line.new.self.items (c.requires.labels ∙ c.requires.here.channels) same
    (ap (λ (xs : List Wire). cycle_moves (signals_of xs) t (length xs)) c.as_slice.ensures ∙ moved ∙ ap (λ (i : ℕ). cycle_moves (φ i) i net.channels) same)
    c.put_line.ensures.items
