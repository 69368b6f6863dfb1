use Rattle.std.proofs.Common.{◌≡◌, ◌++◌, map, take}
use Rattle.xm_lits.specs.declared.literal.Lit.TheVariants as lit
use Rattle.xm_search.proofs.order.push_dead.Given as goal

abbrev pub invariant-loop-d : goal.invariant-loop-d
invariant-loop-d l = l.goals.items ≡ l.fn.goals.items ++ map (λ d. lit.Dead l.channel d) (take l.d-index l.colours)
