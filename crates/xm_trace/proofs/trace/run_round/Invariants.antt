use Rattle.std.proofs.Common.{◌≡◌, ◌≤◌, ◌-◌, ◌*◌, length}
use Rattle.xm_step.specs.Roomy.{IsRoomy, SameRooms}
use Rattle.xm_trace.specs.Runs.{AreCellsAt, AreMovesFrom}
use Rattle.xm_trace.proofs.trace.run_round.Given as goal

-- the state is that of cycle t, and the moves are those before it, for which room was taken
abbrev pub invariant-loop-t : goal.invariant-loop-t
invariant-loop-t l = record {
  roomy : IsRoomy l.evaluator.net.prims l.state.cells.items;
  rooms : SameRooms l.evaluator.net.prims l.initial.state.cells.items l.state.cells.items;
  cells_room : l.state.cells.room ≡ l.initial.state.cells.room;
  wires : length l.frame.wires.items ≡ l.evaluator.net.channels;
  tape : l.rows.tape ≡ l.tape;
  row : l.rows.cycle ≡ l.t;
  room : (l.to - l.from) * l.evaluator.net.channels ≤ l.moves.room;
  few : length l.moves.items ≤ (l.t - l.from) * l.evaluator.net.channels;
  state : AreCellsAt l.evaluator.net l.tape l.t l.state.cells.items;
  moves : AreMovesFrom l.evaluator.net l.tape l.from (l.t - l.from) l.moves.items;
}
