use Rattle.std.proofs.Common.{◌≡◌, ◌++◌, map, take}
use Rattle.std.specs.List.{flat_map}
use Rattle.xm_flow.specs.ValidLemma.{lemma_of}
use Rattle.xm_model.specs.Naming.{naming_of}
use Rattle.xm_report.specs.Invariants.{invariant_line}
use Rattle.xm_report.proofs.invariants.push_invariants.Given as goal

abbrev pub invariant-loop-i : goal.invariant-loop-i
invariant-loop-i l = l.text.items ≡ l.fn.text.items ++ flat_map (invariant_line (naming_of l.it.names.now) l.it.pairs.now) (map lemma_of (take l.i l.invariants))
