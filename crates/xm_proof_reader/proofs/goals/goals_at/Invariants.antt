use Rattle.std.proofs.Common.{◌≡◌, map, drop}
use Rattle.serde_json.specs.View.{view}
use Rattle.xm_json.specs.Lemmas.Walk.{with_front}
use Rattle.xm_json.specs.Path.{place_of}
use Rattle.xm_model.specs.Steps.{each_from}
use Rattle.xm_proof_reader.specs.Views.{known_of}
use Rattle.xm_proof.specs.Argument.{refutation_of}
use Rattle.xm_proof_reader.specs.Reading.{goal_at}
use Rattle.xm_proof_reader.proofs.goals.goals_at.Given as goal

abbrev pub invariant-loop-place : goal.invariant-loop-place
invariant-loop-place l =
    with_front (map refutation_of l.goals.items) (each_from (λ i x. goal_at (known_of l.known) (place_of l.path i) x) l.place (map view (drop l.place l.values)))
    ≡ each_from (λ i x. goal_at (known_of l.known) (place_of l.path i) x) 0 (map view l.values)
