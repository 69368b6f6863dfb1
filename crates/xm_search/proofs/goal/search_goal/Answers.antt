use Rattle.xm_search.proofs.Turning.{ended_on, planted_on}
use Rattle.xm_search.specs.Inner.Ground.{lemmas_of}
use Rattle.xm_search.proofs.goal.search_goal.Goals as goal

pub loop-alloc-init : goal.loop-alloc-init
loop-alloc-init c =
    let e = c.in_ok-growth.ensures in
    record { grown = planted_on c.args.design.now (lemmas_of c.args.ground.now) c.args.before.now c.args.goal c.args.budget c.in_ok-growth.growth c.requires.budget e.done e.leaves e.nodes e.pivots }

pub returns-clause-found : goal.returns-clause-found
returns-clause-found c =
    ended_on c.args.design.now (lemmas_of c.args.ground.now) c.args.before.now c.args.goal c.args.budget c.loop-alloc.growth (c.is_empty.ensures.0 c.loop-alloc-test.false) c.loop-alloc.invariant.grown
