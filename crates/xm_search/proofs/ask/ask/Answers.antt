use Rattle.std.proofs.Common.{◌++◌, List, ap, length, subst, ◌∙◌}
use Rattle.std.specs.Prelude.{IfOk}
use Rattle.xm_lp.specs.declared.decision.Con.{Con}
use Rattle.xm_search.specs.Constraints.{said}
use Rattle.xm_search.specs.Inner.Taken.{Says}
use Rattle.xm_search.proofs.Naming.{names_count, none_named}
use Rattle.xm_search.proofs.ask.ask.Goals as goal

pub answer_of-requires-clause-named : goal.answer_of-requires-clause-named
answer_of-requires-clause-named c =
    let it = c.args.design.now in
    let path = c.args.path.now in
    let lemmas = c.requires.shared.0 in
    let none = none_named it lemmas path c.no_bounds-bounds.result c.no_bounds-bounds.ensures.cons c.no_bounds-bounds.ensures.items in
    (lemmas, (path, c.in_ok-push_literals.ensures.named lemmas (c.in_ok-push_all.ensures.named it lemmas path (c.requires.shared.1.named path) none)))

pub push_all-requires : goal.push_all-requires
push_all-requires c =
    names_count c.args.design.now c.requires.shared.0 c.args.path.now c.args.shared.now (c.requires.shared.1.named c.args.path.now)

pub returns-clause-says : goal.returns-clause-says
returns-clause-says c = λ lemmas shared.
    let more = said c.args.design.now c.args.path.now in
    let all = c.in_ok-push_literals.ensures.cons
    ∙ ap (λ (l : List Con). l ++ more) (c.in_ok-push_all.ensures.cons ∙ ap (λ (l : List Con). l ++ c.args.shared.now.cons.items) c.no_bounds-bounds.ensures.cons ∙ shared.cons) in
    subst (λ (l : List Con). IfOk c.answer_of.result (Says l (length c.args.pairs.now) c.args.left)) all c.answer_of.ensures.says

pub returns-clause-closes : goal.returns-clause-closes
returns-clause-closes c = λ lemmas shared.
    let it = c.args.design.now in
    let path = c.args.path.now in
    let none = none_named it lemmas path c.no_bounds-bounds.result c.no_bounds-bounds.ensures.cons c.no_bounds-bounds.ensures.items in
    c.answer_of.ensures.closes lemmas path (c.in_ok-push_literals.ensures.named lemmas (c.in_ok-push_all.ensures.named it lemmas path (shared.named path) none))
