use Rattle.std.proofs.Common.{◌≡◌, ◌≤◌, ◌+◌, ◌++◌, length, map, take}
use Rattle.xm_board.specs.Inner.Posting.{moves_on}
use Rattle.xm_model.specs.Signals.{Signals}
use Rattle.xm_parts.specs.Projection.{wire_of}
use Rattle.xm_board.proofs.posting.note_moves.Given as goal

abbrev pub invariant-loop-k : goal.invariant-loop-k
invariant-loop-k l = record {
  items : (φ : Signals) → l.wires ≡ map (wire_of φ) l.channels → l.moves.items ≡ l.initial.moves.items ++ moves_on φ l.t (take l.k l.channels);
  few : length l.moves.items ≤ length l.initial.moves.items + l.k;
  room : l.moves.room ≡ l.initial.moves.room;
}
