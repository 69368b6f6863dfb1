use Rattle.std.proofs.Common.{◌≡◌, map, drop}
use Rattle.serde_json.specs.View.{view}
use Rattle.xm_model.specs.Steps.{each_from}
use Rattle.xm_shape.specs.Views.{named_primitive_of}
use Rattle.xm_json.specs.Path.{place_of}
use Rattle.xm_shape.specs.Shape.{net, primitive_at}
use Rattle.xm_json.specs.Lemmas.Walk.{with_front}
use Rattle.xm_shape.proofs.shape.primitives_of.Given as goal

abbrev pub invariant-loop-i : goal.invariant-loop-i
invariant-loop-i l =
    with_front (map named_primitive_of l.primitives.items) (each_from (λ i x. primitive_at l.version (place_of net i) x) l.i (map view (drop l.i l.values)))
    ≡ each_from (λ i x. primitive_at l.version (place_of net i) x) 0 (map view l.values)
