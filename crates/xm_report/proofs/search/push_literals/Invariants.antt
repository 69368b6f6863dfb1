use Rattle.std.proofs.Common.{◌≡◌, ◌++◌, codes, take}
use Rattle.std.specs.List.{flat_map}
use Rattle.xm_model.specs.Naming.{naming_of}
use Rattle.xm_report.specs.Search.{literal_line}
use Rattle.xm_report.proofs.search.push_literals.Given as goal

abbrev pub invariant-loop-k : goal.invariant-loop-k
invariant-loop-k l = l.text.items ≡ l.fn.text.items ++ flat_map (literal_line (codes "lit") (naming_of l.names)) (take l.k l.lits)
