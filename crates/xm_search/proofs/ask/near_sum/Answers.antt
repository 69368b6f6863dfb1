use Rattle.std.proofs.Common.{subst}
use Rattle.xm_search.specs.Inner.Fitting.{FitsAnswer}
use Rattle.xm_search.specs.Inner.Taken.{ClosesBy}
use Rattle.xm_search.specs.declared.ask.Answer.{Answer}
use Rattle.xm_search.proofs.Naming.{names_count, none_named}
use Rattle.xm_search.proofs.ask.near_sum.Goals as goal

pub answer_of-requires-clause-named : goal.answer_of-requires-clause-named
answer_of-requires-clause-named c =
    let it = c.args.design.now in
    let path = c.args.path.now in
    let none = none_named it c.requires.shared.0 path c.no_bounds-bounds.result c.no_bounds-bounds.ensures.cons c.no_bounds-bounds.ensures.items in
    (c.requires.shared.0, (path, c.in_ok-push_near.ensures it c.requires.shared.0 path (c.requires.shared.1.named path) (c.in_ok-push_literals.ensures.named c.requires.shared.0 none)))

pub push_near-requires : goal.push_near-requires
push_near-requires c =
    names_count c.args.design.now c.requires.shared.0 c.args.path.now c.args.shared.now (c.requires.shared.1.named c.args.path.now)

pub returns-in-Sum-clause-closes : goal.returns-in-Sum-clause-closes
returns-in-Sum-clause-closes c = λ lemmas shared.
    let it = c.args.design.now in
    let path = c.args.path.now in
    let none = none_named it lemmas path c.no_bounds-bounds.result c.no_bounds-bounds.ensures.cons c.no_bounds-bounds.ensures.items in
    let are = c.in_ok-push_near.ensures it lemmas path (shared.named path) (c.in_ok-push_literals.ensures.named lemmas none) in
    subst (λ (a : Answer). ClosesBy it lemmas path a) c.in-Sum.is (c.in_ok-items.ensures.closes lemmas path are)

pub returns-in-Sum-clause-fits : goal.returns-in-Sum-clause-fits
returns-in-Sum-clause-fits c = subst (λ (a : Answer). FitsAnswer a) c.in-Sum.is c.in_ok-items.ensures.fits
