use Rattle.std.proofs.Common.{◌++◌, List, map, take}
use Rattle.xm_flow.specs.Inner.Building.{AreTerms, term, unit_of}
use Rattle.xm_flow.specs.FlowRows.{Moves, Term, columns}
use Rattle.xm_flow.proofs.terms.push_moves.Given as goal

abbrev pub invariant-loop-i : goal.invariant-loop-i
invariant-loop-i l =
    (left : List Term) → AreTerms (columns l.design) left l.initial.terms.items →
    AreTerms (columns l.design) (left ++ map (λ d. term (unit_of l.sign) (Moves l.c d)) (take l.i l.set)) l.terms.items
