use Rattle.std.proofs.Common.{◌≡◌, ◌++◌, ◌∷◌, [], arith, length-append}
use Rattle.std.proofs.lemmas.List.{map_push}
use Rattle.serde_json.specs.View.{view}
use Rattle.xm_json.specs.Lent.{lent_texts}
use Rattle.xm_json.specs.Path.{place_of}
use Rattle.xm_json.specs.Values.{text_at}
use Rattle.xm_json.specs.Lemmas.Walk.{goes_on}
use Rattle.xm_json.proofs.values.texts_in.Goals as goal

pub loop-place-preserved : goal.loop-place-preserved
loop-place-preserved c =
    let texts = c.loop-place.texts.items in
    let text = c.in_ok-text.text in
    let e : lent_texts c.push.new.self.items ≡ lent_texts texts ++ text.now ∷ [] = rw c.in_ok-push.ensures.items (map_push _ texts text) in
    record {
      exact = rw e (goes_on view (λ i x. text_at (place_of c.args.path.now i) x) _ c.args.items.now c.loop-place.place c.loop-place.place
          c.index-items-place.result _ _ c.loop-place-test.true c.index-items-place.is c.in_ok-text.ensures c.loop-place.invariant.exact);
      whole = rw (e, length-append (lent_texts texts) (text.now ∷ [])) (omega (arith, c.loop-place.invariant.whole));
    }
