use Rattle.std.proofs.Common.{◌≡◌, ◌∷◌, [], true, false, map, ap, sym, ◌∙◌}
use Rattle.std.proofs.lemmas.List.{map-append}
use Rattle.xm_parts.proofs.Building.{locals_on, locals_push, locals_skip, near_is}
use Rattle.xm_model.specs.Component.{component_of}
use Rattle.xm_parts.specs.Kept.{label_at, near_place, renamed}
use Rattle.xm_parts.specs.Partition.{touches_at}
use Rattle.xm_parts.proofs.build.planned_of.Goals as goal
use Rattle.xm_parts.proofs.build.planned_of.Goals.{then-touches_part+in_ok-local+in_ok-push, else-touches_part}

pub loop-i-preserved : goal.loop-i-preserved
loop-i-preserved c =
    let net = c.args.net.now in let label = label_at c.args.labels.now in
    elim c.if-touches_part.branch [
      | then-touches_part+in_ok-local+in_ok-push w ↦
          (let touch : touches_at net label c.args.p c.loop-i.i ≡ true = rw c.prim-prim.ensures (sym c.touches_part.ensures ∙ w.if-touches_part.true) in
          let new = near_is net c.prims.ensures.net c.args.labels.now c.args.places.now c.requires.whole c.requires.places c.args.p c.loop-i.i (component_of c.prim-prim.result.now) c.prim-prim.ensures in
          rw w.made-is (rw w.in_ok-push.ensures.ok (rw (map-append component_of c.loop-i.made.items (_ ∷ [])) (locals_on net label c.args.p (λ i. near_place label c.args.p) c.loop-i.i _ (locals_push net label c.args.p (λ i. near_place label c.args.p) c.loop-i.i (map component_of c.loop-i.made.items) _ touch
          (λ m has. let same : component_of c.prim-prim.result.now ≡ m = cc (c.prim-prim.ensures, has) in w.in_ok-local.ensures ∙ new ∙ ap (renamed (near_place label c.args.p)) same) c.loop-i.invariant)))))
      | else-touches_part w ↦
          (let touch : touches_at net label c.args.p c.loop-i.i ≡ false = rw c.prim-prim.ensures (sym c.touches_part.ensures ∙ w.if-touches_part.false) in
          rw w.made-is (locals_on net label c.args.p (λ i. near_place label c.args.p) c.loop-i.i _ (locals_skip net label c.args.p (λ i. near_place label c.args.p) c.loop-i.i (map component_of c.loop-i.made.items) touch c.loop-i.invariant)))
    ]
