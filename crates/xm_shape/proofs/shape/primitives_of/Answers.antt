use Rattle.std.proofs.Common.{◌≡◌, ◌++◌, ◌∷◌, [], map}
use Rattle.std.proofs.lemmas.List.{map_push}
use Rattle.serde_json.specs.View.{view}
use Rattle.xm_shape.specs.Views.{named_primitive_of}
use Rattle.xm_json.specs.Path.{place_of}
use Rattle.xm_shape.specs.Shape.{net, primitive_at}
use Rattle.xm_json.specs.Lemmas.Walk.{goes_on}
use Rattle.xm_shape.proofs.shape.primitives_of.Goals as goal

pub loop-i-preserved : goal.loop-i-preserved
loop-i-preserved c =
    let e : map named_primitive_of c.push.new.self.items ≡ map named_primitive_of c.loop-i.primitives.items ++ named_primitive_of c.in_ok-primitive.primitive ∷ [] = rw c.in_ok-push.ensures.items (map_push _ c.loop-i.primitives.items c.in_ok-primitive.primitive) in
    rw e (goes_on view (λ i x. primitive_at c.args.version (place_of net i) x) _ c.args.values.now c.loop-i.i c.loop-i.i c.index-values-i.result _ _ c.loop-i-test.true c.index-values-i.is c.in_ok-primitive.ensures c.loop-i.invariant)
