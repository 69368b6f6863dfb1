use Rattle.std.proofs.Common.{◌≡◌, take}
use Rattle.xm_colours.specs.Family.{colours_at}
use Rattle.xm_colours.specs.Pairs.{queue_pairs}
use Rattle.xm_flow.proofs.pairs.queue_pairs.Given as goal

abbrev pub invariant-loop-q : goal.invariant-loop-q
invariant-loop-q l = l.pairs.items ≡ queue_pairs (colours_at l.design.colours) 0 (take l.q l.design.net.prims)
