use Rattle.std.proofs.Common.{◌≡◌, map, drop, length}
use Rattle.serde_json.specs.View.{view}
use Rattle.xm_json.specs.Lemmas.Walk.{with_front}
use Rattle.xm_json.specs.Path.{place_of}
use Rattle.xm_model.specs.Steps.{each_from}
use Rattle.xm_proof_reader.specs.Views.{known_of}
use Rattle.xm_proof.specs.Argument.{step_of}
use Rattle.xm_proof_reader.specs.Reading.{node_at}
use Rattle.xm_proof_reader.proofs.goals.nodes_in.Given as goal

abbrev pub invariant-loop-place : goal.invariant-loop-place
invariant-loop-place l = record {
  exact :
      with_front (map step_of l.nodes.items) (each_from (λ i x. node_at (known_of l.known) (place_of l.path i) x) l.place (map view (drop l.place l.values)))
      ≡ each_from (λ i x. node_at (known_of l.known) (place_of l.path i) x) 0 (map view l.values);
  whole : length l.nodes.items ≡ l.place;
}
