use Rattle.std.proofs.Common.{◌≡◌, ◌-◌, ◌<◌, ◌++◌, ◌∷◌, [], Bool, true, ℕ, List, Some, length, take, sym, ◌∙◌, ap, subst}
use Rattle.std.proofs.Math.ListN.{set}
use Rattle.std.specs.Prelude.{slice_get}
use Rattle.xm_model.specs.Component.{component_of}
use Rattle.xm_model.specs.Net.{outputs}
use Rattle.xm_search.proofs.Steps.{fewer_left, if_ok, under_entered, under_left}
use Rattle.xm_search.specs.GoalOrder.{onward}
use Rattle.xm_search.specs.Inner.Walking.{IsUnderWay, first_unmarked, steps_left}
use Rattle.xm_search.specs.declared.walk.Walk.{Walk}
use Rattle.xm_search.proofs.walk.step.Goals as goal

pub returns-in-Some-clause-less : goal.returns-in-Some-clause-less
returns-in-Some-clause-less c =
    let walk = c.args.walk in
    let net = c.args.net.now in
    let last = c.last_of-last.result in
    let m = component_of c.prim-prim.result.now in
    let at = subst (λ (l : List ℕ). slice_get l (length l - 1) ≡ Some last) c.as_slice.ensures c.last_of-last.ensures in
    let first = sym (c.in-Some.ensures ∙ ap (λ (l : List Bool). first_unmarked l (outputs m)) c.as_slice-2.ensures) in
    if_ok (λ (w : Walk). w.left.items ≡ walk.left.items)
    (λ (w : Walk). w.path.items ≡ walk.path.items ++ c.in-Some.c ∷ [])
    (λ (w : Walk). w.seen.items ≡ set walk.seen.items c.in-Some.c true) (λ w. steps_left w < steps_left walk) c.enter.result
    c.enter.ensures.left c.enter.ensures.path c.enter.ensures.seen
    (λ w left path seen. fewer_left net c.is_net.ensures walk w c.requires.over last c.target.result m c.requires.some at c.target.ensures.only c.prim-prim.ensures c.in-Some.c first path
    seen)

pub returns-in-Some-clause-under_way : goal.returns-in-Some-clause-under_way
returns-in-Some-clause-under_way c = λ before root old u.
    let walk = c.args.walk in
    let net = c.args.net.now in
    let last = c.last_of-last.result in
    let m = component_of c.prim-prim.result.now in
    let at = subst (λ (l : List ℕ). slice_get l (length l - 1) ≡ Some last) c.as_slice.ensures c.last_of-last.ensures in
    let first = sym (c.in-Some.ensures ∙ ap (λ (l : List Bool). first_unmarked l (outputs m)) c.as_slice-2.ensures) in
    if_ok (λ (w : Walk). w.left.items ≡ walk.left.items)
    (λ (w : Walk). w.path.items ≡ walk.path.items ++ c.in-Some.c ∷ [])
    (λ (w : Walk). w.seen.items ≡ set walk.seen.items c.in-Some.c true) (IsUnderWay (onward net) before root old) c.enter.result
    c.enter.ensures.left c.enter.ensures.path c.enter.ensures.seen
    (λ w left path seen. under_entered net c.is_net.ensures walk w c.requires.over last c.target.result m c.requires.some at c.target.ensures.only c.prim-prim.ensures before root old
    c.in-Some.c first left path seen u)

pub returns-in-None-clause-under_way : goal.returns-in-None-clause-under_way
returns-in-None-clause-under_way c = λ before root old u.
    let walk = c.args.walk in
    let net = c.args.net.now in
    let last = c.last_of-last.result in
    let m = component_of c.prim-prim.result.now in
    let at = subst (λ (l : List ℕ). slice_get l (length l - 1) ≡ Some last) c.as_slice.ensures c.last_of-last.ensures in
    let first = sym (c.in-None.ensures ∙ ap (λ (l : List Bool). first_unmarked l (outputs m)) c.as_slice-2.ensures) in
    if_ok (λ (w : Walk). w.left.items ≡ walk.left.items ++ last ∷ [])
    (λ (w : Walk). w.path.items ≡ take (length walk.path.items - 1) walk.path.items) (λ (w : Walk). w.seen.items ≡ walk.seen.items)
    (IsUnderWay (onward net) before root old) c.leave.result c.leave.ensures.left c.leave.ensures.path c.leave.ensures.seen
    (λ w left path seen. under_left net c.is_net.ensures walk w c.requires.over last c.target.result m c.requires.some at c.target.ensures.only c.prim-prim.ensures before root old
    first left path seen u)
