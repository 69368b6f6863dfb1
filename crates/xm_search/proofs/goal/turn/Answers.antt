use Rattle.std.proofs.Common.{List, subst}
use Rattle.xm_lits.specs.declared.literal.Lit.{Lit}
use Rattle.xm_search.specs.Inner.Ground.{lemmas_of}
use Rattle.xm_search.specs.Inner.Growing.{AllBegin}
use Rattle.xm_search.proofs.goal.turn.Goals as goal

pub returns-clause-fault : goal.returns-clause-fault
returns-clause-fault c =
    let begins = subst (λ (l : List (List Lit)). AllBegin c.args.goal l) c.in_ok-path.ensures c.requires.grown.begin in
    c.follow.ensures.fault c.args.design.now (lemmas_of c.args.ground.now) c.args.before.now c.in_ok-seen.ensures begins.0
