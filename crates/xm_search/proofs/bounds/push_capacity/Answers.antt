use Rattle.std.proofs.Common.{Some, refl, ap, ◌∙◌}
use Rattle.xm_model.specs.Component.{component_of}
use Rattle.xm_search.proofs.Naming.{capacity_is, capacity_below}
use Rattle.xm_search.proofs.bounds.push_capacity.Goals as goal

pub returns-in_ok-row-in-Queue-clause-named : goal.returns-in_ok-row-in-Queue-clause-named
returns-in_ok-row-in-Queue-clause-named c = λ it lemmas path same at are.
    let row = c.in_ok-row-in-Queue.row in
    let there = at ∙ ap (λ p. Some (component_of p)) c.in-Queue.is in
    c.push_named.ensures.named it lemmas path (capacity_is it c.args.q c.in-Queue.input c.in-Queue.out c.in-Queue.capacity c.in-Queue.initial.items c.args.pairs.now row there same c.in_ok-row-in-Queue.ensures) refl
    (capacity_below it c.args.q c.in-Queue.capacity c.args.pairs.now row same c.in_ok-row-in-Queue.ensures) are
