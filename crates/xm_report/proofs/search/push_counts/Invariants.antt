use Rattle.std.proofs.Common.{◌≡◌, ◌++◌, take}
use Rattle.std.specs.List.{flat_map, zip}
use Rattle.xm_model.specs.Naming.{naming_of}
use Rattle.xm_report.specs.Search.{packets_line}
use Rattle.xm_report.proofs.search.push_counts.Given as goal

abbrev pub invariant-loop-k : goal.invariant-loop-k
invariant-loop-k l = l.text.items ≡ l.fn.text.items ++ flat_map (packets_line (naming_of l.it.names.now)) (zip (take l.k l.it.pairs.now) (take l.k l.counts))
