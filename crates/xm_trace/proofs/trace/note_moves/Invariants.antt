use Rattle.std.proofs.Common.{◌≡◌, ◌≤◌, ◌+◌, ◌++◌, length}
use Rattle.xm_model.specs.Views.{signals_of}
use Rattle.xm_trace.specs.Moves.{cycle_moves}
use Rattle.xm_trace.proofs.trace.note_moves.Given as goal

abbrev pub invariant-loop-c : goal.invariant-loop-c
invariant-loop-c l = record {
  items : l.moves.items ≡ l.initial.moves.items ++ cycle_moves (signals_of l.wires) l.cycle l.c;
  few : length l.moves.items ≤ length l.initial.moves.items + l.c;
  room : l.moves.room ≡ l.initial.moves.room;
}
