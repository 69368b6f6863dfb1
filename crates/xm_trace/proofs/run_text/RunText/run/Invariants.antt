use Rattle.std.proofs.Common.{◌≡◌, ◌≤◌, ◌-◌, ◌++◌, ℕ}
use Rattle.xm_model.specs.Component.{Content}
use Rattle.xm_model.specs.Naming.{Naming}
use Rattle.xm_model.specs.Signals.{Signals}
use Rattle.xm_step.specs.InStep.{IsInStep}
use Rattle.xm_step.specs.Roomy.{SameRooms}
use Rattle.xm_trace.specs.Labels.{AreLabelsOf}
use Rattle.xm_trace.specs.Rounds.{IsUnderway}
use Rattle.xm_trace.specs.Runs.{IsRunOf}
use Rattle.xm_trace.specs.Text.{round_lines}
use Rattle.xm_trace.proofs.run_text.RunText.run.Given as goal

abbrev pub decreases-loop-texts : goal.decreases-loop-texts
decreases-loop-texts l = l.to - l.self.cycles

-- text, state and lines are those after so many cycles
abbrev pub invariant-loop-texts : goal.invariant-loop-texts
invariant-loop-texts l = record {
  here : IsUnderway l.evaluator.net l.initial.rows.tape l.self l.running.slots.items;
  tape : l.rows.tape ≡ l.initial.rows.tape;
  row : l.rows.cycle ≡ l.self.cycles;
  later : l.initial.self.cycles ≤ l.self.cycles;
  within : l.self.cycles ≤ l.to;
  channels : l.self.channels ≡ l.initial.self.channels;
  colours : l.self.colours ≡ l.initial.self.colours;
  in_step : IsInStep l.evaluator.net l.running.slots.items l.frame;
  rooms : SameRooms l.evaluator.net.prims l.initial.running.slots.items l.running.slots.items;
  room : l.running.slots.room ≡ l.initial.running.slots.room;
  lines : (names : Naming) (s : ℕ → ℕ → Content) (φ : ℕ → Signals) → AreLabelsOf names l.labels → IsRunOf l.evaluator.net l.initial.rows.tape s φ
      → l.lines.items ≡ l.initial.lines.items ++ round_lines names φ l.initial.self.cycles (l.self.cycles - l.initial.self.cycles);
}
