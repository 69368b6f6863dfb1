use Rattle.std.proofs.Common.{◌≡◌, ◌++◌, map, take}
use Rattle.xm_flow.proofs.pairs.push_colours.Given as goal

abbrev pub invariant-loop-i : goal.invariant-loop-i
invariant-loop-i l = l.pairs.items ≡ l.initial.pairs.items ++ map (λ d. (l.q, d)) (take l.i l.colours)
