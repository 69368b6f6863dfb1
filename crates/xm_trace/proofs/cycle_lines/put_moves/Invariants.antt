use Rattle.std.proofs.Common.{◌≡◌, ◌≤◌, ◌<◌, ◌+◌, ◌-◌, ◌*◌, ◌++◌, ℕ, length, take}
use Rattle.std.specs.List.{flat_map}
use Rattle.xm_model.specs.Views.{signals_of}
use Rattle.xm_trace.specs.Inner.Labels.{label_text, labelled_of, move_room}
use Rattle.xm_trace.specs.Moves.{cycle_moves}
use Rattle.xm_trace.specs.Sums.{sum_at, sum_in}
use Rattle.xm_trace.proofs.cycle_lines.put_moves.Given as goal

-- the moves of the first channels are appended and counted, and there is room for those of the others
abbrev pub invariant-loop-c : goal.invariant-loop-c
invariant-loop-c l = record {
  text : take l.end l.out ≡ take l.at l.initial.out ++ flat_map (label_text (labelled_of l.texts)) (cycle_moves (signals_of l.wires) l.cycle l.c);
  few : l.end + (length l.wires - l.c) * move_room l.texts ≤ l.at + length l.wires * move_room l.texts;
  len : length l.out ≡ length l.initial.out;
  sums : (c d : ℕ) → c < length l.wires → d < l.colours → sum_at l.sums l.colours c d ≡ sum_in (cycle_moves (signals_of l.wires) l.cycle l.c) c d + sum_at l.initial.sums l.colours c d;
}
