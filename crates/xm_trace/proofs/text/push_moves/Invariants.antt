use Rattle.std.proofs.Common.{◌≡◌, ◌++◌, take}
use Rattle.std.specs.List.{flat_map}
use Rattle.xm_model.specs.Naming.{naming_of}
use Rattle.xm_trace.specs.Text.{move_text}
use Rattle.xm_trace.proofs.text.push_moves.Given as goal

abbrev pub invariant-loop-it : goal.invariant-loop-it
invariant-loop-it l = l.text.items ≡ l.initial.text.items ++ flat_map (move_text (naming_of l.names)) (take l.it-index l.moves)
