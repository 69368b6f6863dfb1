use Rattle.std.proofs.Common.{◌≡◌}
use Rattle.xm_netlist.specs.Numbered.{numbers_below}
use Rattle.xm_netlist.proofs.numbering.numbers_below.Given as goal

abbrev pub invariant-loop-k : goal.invariant-loop-k
invariant-loop-k l = l.numbers.items ≡ numbers_below l.k
