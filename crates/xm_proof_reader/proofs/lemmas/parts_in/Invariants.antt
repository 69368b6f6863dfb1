use Rattle.std.proofs.Common.{◌≡◌, map, drop, None}
use Rattle.serde_json.specs.View.{view}
use Rattle.xm_json.specs.Lemmas.Walk.{with_front}
use Rattle.xm_json.specs.Path.{place_of}
use Rattle.xm_proof_reader.specs.Reading.{each_after, part_at}
use Rattle.xm_proof_reader.proofs.lemmas.parts_in.Given as goal

abbrev pub invariant-loop-place : goal.invariant-loop-place
invariant-loop-place l =
    with_front l.parts.items (each_after (λ before i x. part_at (place_of l.path i) before x) l.before l.place (map view (drop l.place l.values)))
    ≡ each_after (λ before i x. part_at (place_of l.path i) before x) None 0 (map view l.values)
