use Rattle.std.proofs.Common.{◌≡◌, map, drop, None}
use Rattle.serde_json.specs.View.{view}
use Rattle.xm_json.specs.Lemmas.Walk.{with_front}
use Rattle.xm_json.specs.Path.{place_of}
use Rattle.xm_proof_reader.specs.Views.{known_of}
use Rattle.xm_proof_reader.specs.Reading.{each_after, term_at}
use Rattle.xm_proof_reader.proofs.lemmas.entries_in.Given as goal

abbrev pub invariant-loop-place : goal.invariant-loop-place
invariant-loop-place l =
    with_front l.entries.items (each_after (λ before i x. term_at (known_of l.known) (place_of l.path i) before x) l.before l.place (map view (drop l.place l.values)))
    ≡ each_after (λ before i x. term_at (known_of l.known) (place_of l.path i) before x) None 0 (map view l.values)
