use Rattle.std.proofs.Common.{◌≡◌, ◌≤◌, ◌-◌, ℕ}
use Rattle.std.specs.Io.KnownBytes.{Appends}
use Rattle.xm_commands.specs.Inner.RunSoFar.{IsBegun}
use Rattle.xm_model.specs.Component.{Content}
use Rattle.xm_model.specs.Naming.{naming_of}
use Rattle.xm_model.specs.Signals.{Signals}
use Rattle.xm_trace.specs.Runs.{IsRunOf}
use Rattle.xm_trace.specs.Text.{round_lines}
use Rattle.xm_commands.proofs.running.write_rounds.Given as goal

abbrev pub decreases-loop-run : goal.decreases-loop-run
decreases-loop-run g l = l.cycles - l.run.text.cycles

abbrev pub invariant-loop-run : goal.invariant-loop-run
invariant-loop-run g l = record {
  within : l.run.text.cycles ≤ l.cycles;
  underway : IsBegun l.evaluator l.tape l.run;
  tape : l.rows.tape ≡ l.tape;
  row : l.rows.cycle ≡ l.run.text.cycles;
  labels : l.run.labels ≡ l.initial.run.labels;
  unharmed : g.K.Sink.faults l.out ≡ g.K.Sink.faults l.initial.out;
  written : (s : ℕ → ℕ → Content) (φ : ℕ → Signals) → IsRunOf l.evaluator.net l.tape s φ → Appends (g.K.Sink.held l.initial.out) (g.K.Sink.held l.out) (round_lines (naming_of l.names) φ 0 l.run.text.cycles);
}
