use Rattle.std.proofs.Common.{◌≡◌}
use Rattle.xm_check.proofs.Packing.{colours_below}
use Rattle.xm_proof.specs.Tests.{entries_where, queue_columns}
use Rattle.xm_check.proofs.items.packets.Given as goal

abbrev pub invariant-loop-d : goal.invariant-loop-d
invariant-loop-d l = l.entries.items ≡ entries_where (colours_below l.q l.d) l.value 0 (queue_columns l.design)
