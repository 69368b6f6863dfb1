use Rattle.std.proofs.Common.{◌≡◌, ℕ, take}
use Rattle.std.specs.Io.KnownBytes.{Appends}
use Rattle.xm_commands.proofs.Simulated.{lines_to}
use Rattle.xm_commands.specs.Inner.Simulating.{AreShown}
use Rattle.xm_model.specs.Component.{Content}
use Rattle.xm_model.specs.Naming.{naming_of}
use Rattle.xm_commands.proofs.simulating.write_snapshots.Given as goal

abbrev pub invariant-loop-k : goal.invariant-loop-k
invariant-loop-k g l = record {
  unharmed : g.K.Sink.faults l.out ≡ g.K.Sink.faults l.initial.out;
  written : (s : ℕ → ℕ → Content) → AreShown l.design.net s l.snapshots → Appends (g.K.Sink.held l.initial.out) (g.K.Sink.held l.out) (lines_to (naming_of l.names) l.design s (take l.k l.snapshots));
}
