use Rattle.std.proofs.Common.{◌≡◌, ◌≤◌, ◌++◌, ℕ, length}
use Rattle.xm_model.specs.Naming.{naming_of}
use Rattle.xm_model.specs.Signals.{Signals}
use Rattle.xm_trace.specs.Moves.{round_moves}
use Rattle.xm_trace.specs.Text.{round_lines}
use Rattle.xm_trace.proofs.text.push_round.Given as goal

abbrev pub invariant-loop-k : goal.invariant-loop-k
invariant-loop-k l = record {
  within : l.start ≤ length l.moves;
  done : (φ : ℕ → Signals) → l.part.moves.items ≡ round_moves φ (length (naming_of l.names).channels) l.from l.part.cycles
      → (l.start ≡ length (round_moves φ (length (naming_of l.names).channels) l.from l.k)) × (l.text.items ≡ l.initial.text.items ++ round_lines (naming_of l.names) φ l.from l.k);
}
