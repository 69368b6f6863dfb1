use Rattle.std.proofs.Common.{◌≡◌, ◌-◌, [], ℕ, length, Some, slice_get}
use Rattle.xm_board.specs.Inner.Merging.{AreTaken, part_of, round_rest}
use Rattle.xm_model.specs.ListView.{ListView}
use Rattle.xm_model.specs.Signals.{Signals}
use Rattle.xm_parts.specs.Kept.{label_at}
use Rattle.xm_trace.specs.Moves.{round_moves}
use Rattle.xm_trace.specs.declared.trace.Move.{Move}
use Rattle.xm_board.proofs.merging.merged.Given as goal

-- the moves of the cycles so far were taken
abbrev pub invariant-loop-t : goal.invariant-loop-t
invariant-loop-t l = record {
  long : length l.places.items ≡ l.parts.count;
  taken : (φ : ℕ → Signals) → ((p : ℕ) (ms : ListView Move) → slice_get l.all p ≡ Some ms → ms.items ≡ part_of (label_at l.parts.labels) p (round_moves φ l.channels l.from (l.to - l.from))) →
      AreTaken (label_at l.parts.labels) l.all [] (round_moves φ l.channels l.from (l.t - l.from)) (round_rest φ l.channels l.t (l.to - l.t)) l.places.items l.made.items;
}
