use Rattle.std.proofs.Common.{◌<◌, get_or, ap, arith, ◌^◌}
use Rattle.std.proofs.lemmas.List.{get_or_default}
use Rattle.std.proofs.lemmas.Option.{slice_get-get_or}
use Rattle.xm_lits.specs.declared.literal.Lit.TheVariants.{Stuck}
use Rattle.xm_proof.specs.Argument.{step_of}
use Rattle.std.proofs.Common.{map, take}
use Rattle.xm_search.proofs.Choices.{in_at}
use Rattle.xm_search.proofs.Finishing.{fault_in, root_fits, some_before, spent_next, took, unpaid_root}
use Rattle.xm_search.specs.Inner.Ground.{lemmas_of}
use Rattle.xm_search.proofs.searching.search_next.Goals as goal

pub returns-then-left-eq0-clause-next : goal.returns-then-left-eq0-clause-next
returns-then-left-eq0-clause-next c =
    let it = c.args.design.now in
    let lemmas = lemmas_of c.args.ground.now in
    let order = c.args.order.now in
    let place = c.args.place in
    let old = c.args.progress in
    let budget = c.args.budget in
    let lit = get_or order place (Stuck 0) in
    let progress = c.requires.progress in
    let none = c.if-left-eq0.true in
    let known = progress.within in
    let some = some_before it lemmas order budget place old progress c.requires.budget (omega arith) c.requires.place in
    let work = unpaid_root it lemmas (take place order) lit c.in_ok-tree.tree.items some (ap (map step_of) c.in_ok-tree.ensures) in
    spent_next it lemmas order budget place old c.in_ok-add_goal.field-0 lit c.in_ok-tree.tree.items 0 0 progress c.requires.place (get_or_default order place (Stuck 0) lit c.requires.place)
    c.in_ok-add_goal.ensures work (omega arith) (root_fits c.in_ok-tree.tree.items (ap (map step_of) c.in_ok-tree.ensures))

pub returns-in-Err-clause-fault : goal.returns-in-Err-clause-fault
returns-in-Err-clause-fault c =
    let order = c.args.order.now in
    let place = c.args.place in
    let lit = get_or order place (Stuck 0) in
    fault_in c.args.design.now (lemmas_of c.args.ground.now) order lit c.in-Err.fault c.requires.order (in_at order place lit (slice_get-get_or order place (Stuck 0) c.requires.place)) c.in-Err.ensures.fault

pub returns-in_ok-take_found-in-Ok-clause-next : goal.returns-in_ok-take_found-in-Ok-clause-next
returns-in_ok-take_found-in-Ok-clause-next c =
    let order = c.args.order.now in
    let place = c.args.place in
    let budget = c.args.budget in
    let lit = get_or order place (Stuck 0) in
    let fit : budget < 2 ^ 64 = omega arith in
    took c.args.design.now (lemmas_of c.args.ground.now) order budget place c.args.progress lit c.requires.progress c.requires.place (get_or_default order place (Stuck 0) lit c.requires.place) fit
    c.in-Ok.found c.in_ok-take_found-in-Ok.field-0 c.requires.order c.in-Ok.ensures.found c.in_ok-take_found-in-Ok.ensures
