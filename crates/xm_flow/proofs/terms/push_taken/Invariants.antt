use Rattle.std.proofs.Common.{◌++◌, List, map, take}
use Rattle.xm_flow.specs.Inner.Building.{AreTerms}
use Rattle.xm_flow.specs.FlowRows.{Moves, Term, columns, minus, taken_to}
use Rattle.xm_flow.proofs.terms.push_taken.Given as goal

abbrev pub invariant-loop-i : goal.invariant-loop-i
invariant-loop-i l =
    (left : List Term) → AreTerms (columns l.design) left l.initial.terms.items →
    AreTerms (columns l.design) (left ++ map (λ d. minus (Moves l.c d)) (taken_to l.table l.e (take l.i l.set))) l.terms.items
