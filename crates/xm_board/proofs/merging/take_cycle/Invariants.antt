use Rattle.std.proofs.Common.{◌≡◌, ◌-◌, ◌++◌, List, length}
use Rattle.xm_board.specs.Inner.Merging.{AreLeft, AreTaken, NoneOf, cycle_rest}
use Rattle.xm_model.specs.Signals.{Signals}
use Rattle.xm_parts.specs.Kept.{label_at}
use Rattle.xm_trace.specs.Moves.{cycle_moves}
use Rattle.xm_trace.specs.declared.trace.Move.{Move}
use Rattle.xm_board.proofs.merging.take_cycle.Given as goal

-- the moves on the channels so far were taken
abbrev pub invariant-loop-c : goal.invariant-loop-c
invariant-loop-c l = record {
  long : length l.places.items ≡ length l.initial.places.items;
  taken : (φ : Signals) (left : List Move) → NoneOf l.t left → AreLeft (label_at l.parts.labels) l.all l.initial.places.items l.initial.made.items (cycle_moves φ l.t l.channels ++ left) →
      AreTaken (label_at l.parts.labels) l.all l.initial.made.items (cycle_moves φ l.t l.c) (cycle_rest φ l.t l.c (l.channels - l.c) ++ left) l.places.items l.made.items;
}
