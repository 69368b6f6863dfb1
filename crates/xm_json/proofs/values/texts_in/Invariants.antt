use Rattle.std.proofs.Common.{◌≡◌, map, drop, length}
use Rattle.serde_json.specs.View.{view}
use Rattle.xm_model.specs.Steps.{each_from}
use Rattle.xm_json.specs.Lent.{lent_texts}
use Rattle.xm_json.specs.Path.{place_of}
use Rattle.xm_json.specs.Values.{text_at}
use Rattle.xm_json.specs.Lemmas.Walk.{with_front}
use Rattle.xm_json.proofs.values.texts_in.Given as goal

abbrev pub invariant-loop-place : goal.invariant-loop-place
invariant-loop-place l = record {
  exact :
      with_front (lent_texts l.texts.items) (each_from (λ i x. text_at (place_of l.path i) x) l.place (map view (drop l.place l.items)))
      ≡ each_from (λ i x. text_at (place_of l.path i) x) 0 (map view l.items);
  whole : length (lent_texts l.texts.items) ≡ l.place;
}
