use Rattle.std.proofs.Common.{◌≡◌, ◌++◌, ◌∷◌, []}
use Rattle.serde_json.specs.View.{view}
use Rattle.xm_json.specs.Path.{place_of}
use Rattle.xm_proof_reader.specs.Reading.{part_at}
use Rattle.xm_proof_reader.proofs.After.{goes_on_after}
use Rattle.xm_proof_reader.proofs.lemmas.parts_in.Goals as goal

pub loop-place-preserved : goal.loop-place-preserved
loop-place-preserved c =
    let e : c.push.new.self.items ≡ c.loop-place.parts.items ++ c.in_ok-part.part ∷ [] = c.in_ok-push.ensures.ok in
    rw e (goes_on_after view (λ before i x. part_at (place_of c.args.path.now i) before x) _ c.loop-place.before c.args.values.now c.loop-place.place c.loop-place.place
    c.index-values-place.result _ _ c.loop-place-test.true c.index-values-place.is (rw (c.as_str.ensures.value, c.in_ok-further.ensures) at c.in_ok-part.ensures) c.loop-place.invariant)
