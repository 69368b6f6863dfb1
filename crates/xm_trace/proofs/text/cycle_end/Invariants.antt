use Rattle.std.proofs.Common.{◌≡◌, ◌+◌, drop}
use Rattle.std.specs.List.{prefix_len}
use Rattle.std.specs.Prelude.{◌==◌}
use Rattle.xm_trace.proofs.text.cycle_end.Given as goal

abbrev pub invariant-loop-k : goal.invariant-loop-k
invariant-loop-k l = l.k + prefix_len (λ m. m.cycle == l.cycle) (drop l.k l.moves) ≡ l.from + prefix_len (λ m. m.cycle == l.cycle) (drop l.from l.moves)
