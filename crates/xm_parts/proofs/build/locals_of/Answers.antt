use Rattle.std.proofs.Common.{◌≡◌, ◌+◌, ◌∷◌, [], true, false, length, map, ap, sym, ◌∙◌, arith}
use Rattle.std.specs.Prelude.{cond}
use Rattle.std.proofs.lemmas.List.{length-map, map-append}
use Rattle.xm_parts.proofs.Building.{local_is, locals_on, locals_push, locals_skip, place_few, place_on}
use Rattle.xm_parts.proofs.Passing.{passing_length}
use Rattle.xm_model.specs.Component.{component_of}
use Rattle.xm_parts.specs.Kept.{label_at, port_place, renamed}
use Rattle.xm_parts.specs.Partition.{is_cut, lies_in, touches_at}
use Rattle.xm_parts.specs.Passing.{place}
use Rattle.xm_parts.proofs.build.locals_of.Goals as goal
use Rattle.xm_parts.proofs.build.locals_of.Goals.{then-touches_part+in_ok-local+in_ok-push, else-touches_part}

pub overflow_add-far : goal.overflow_add-far
overflow_add-far c =
    let net = c.args.net.now in let label = label_at c.args.labels.now in
    let far = c.loop-i.invariant.far in let few = place_few (is_cut net label c.args.p) c.loop-i.i in
    let own = c.requires.own ∙ passing_length (lies_in label c.args.p) net.channels in let less = place_few (lies_in label c.args.p) net.channels in
    let limits = c.prims.ensures.net.limits.channels in let prims = c.prims.ensures.net.limits.prims in
    let n : length c.as_slice.result.now ≡ length net.prims = sym (length-map c.as_slice.result.now component_of) ∙ ap length (ap (map component_of) c.as_slice.ensures ∙ c.prims.ensures.prims) in
    let one = c.cut_count-cuts.ensures.few in let below = c.loop-i-test.true in
    omega arith

pub loop-i-preserved : goal.loop-i-preserved
loop-i-preserved c =
    let net = c.args.net.now in let label = label_at c.args.labels.now in
    let own = c.requires.own ∙ passing_length (lies_in label c.args.p) net.channels in
    let far_is : c.loop-i.far ≡ place (lies_in label c.args.p) net.channels + place (is_cut net label c.args.p) c.loop-i.i = (let f = c.loop-i.invariant.far in omega arith) in
    let cut : c.cut_count-cuts.result ≡ cond (is_cut net label c.args.p c.loop-i.i) 1 0 = rw c.prim-prim.ensures c.cut_count-cuts.ensures.count in
    let more = place_on (is_cut net label c.args.p) c.loop-i.i in
    record {
      far = (let f = c.loop-i.invariant.far in omega arith);
      locals = elim c.if-touches_part.branch [
        | then-touches_part+in_ok-local+in_ok-push w ↦
            (let touch : touches_at net label c.args.p c.loop-i.i ≡ true = rw c.prim-prim.ensures (sym c.touches_part.ensures ∙ w.if-touches_part.true) in
            let new = local_is net c.prims.ensures.net c.args.labels.now c.args.places.now c.requires.whole c.requires.places c.args.p c.loop-i.i c.loop-i.far (component_of c.prim-prim.result.now) c.prim-prim.ensures far_is in
            rw w.made-is (rw w.in_ok-push.ensures.ok (rw (map-append component_of c.loop-i.made.items (_ ∷ [])) (locals_on net label c.args.p (port_place net label c.args.p) c.loop-i.i _ (locals_push net label c.args.p (port_place net label c.args.p) c.loop-i.i (map component_of c.loop-i.made.items) _ touch
            (λ m has. let same : component_of c.prim-prim.result.now ≡ m = cc (c.prim-prim.ensures, has) in w.in_ok-local.ensures ∙ new ∙ ap (renamed (port_place net label c.args.p c.loop-i.i)) same) c.loop-i.invariant.locals)))))
        | else-touches_part w ↦
            (let touch : touches_at net label c.args.p c.loop-i.i ≡ false = rw c.prim-prim.ensures (sym c.touches_part.ensures ∙ w.if-touches_part.false) in
            rw w.made-is (locals_on net label c.args.p (port_place net label c.args.p) c.loop-i.i _ (locals_skip net label c.args.p (port_place net label c.args.p) c.loop-i.i (map component_of c.loop-i.made.items) touch c.loop-i.invariant.locals)))
      ];
    }
