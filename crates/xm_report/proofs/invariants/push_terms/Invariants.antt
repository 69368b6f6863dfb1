use Rattle.std.proofs.Common.{◌≡◌, ◌++◌, take}
use Rattle.std.specs.List.{flat_map}
use Rattle.xm_model.specs.Naming.{naming_of}
use Rattle.xm_report.specs.Invariants.{term_text}
use Rattle.xm_report.proofs.invariants.push_terms.Given as goal

abbrev pub invariant-loop-k : goal.invariant-loop-k
invariant-loop-k l = l.text.items ≡ l.fn.text.items ++ flat_map (term_text (naming_of l.it.names.now) l.it.pairs.now) (take l.k l.entries)
