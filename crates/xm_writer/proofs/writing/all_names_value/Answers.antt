use Rattle.std.proofs.Common.{◌≡◌, ◌∙◌, ◌<◌, ◌+◌, ◌++◌, ◌∷◌, [], ap, sym, List, map, take, length, add-one, arith}
use Rattle.std.proofs.Math.Seq.{take-suc}
use Rattle.std.proofs.lemmas.List.{length-map, map_push, take_all}
use Rattle.serde_json.specs.Data.{Data, array, string}
use Rattle.serde_json.specs.View.{items_of}
use Rattle.serde_json.proofs.Views.{view-Array}
use Rattle.xm_model.specs.TextLines.{name_at}
use Rattle.xm_model.specs.Naming.{texts_of}
use Rattle.xm_writer.proofs.Spelled.{grown}
use Rattle.xm_writer.specs.Lemmas.Values.{view-String}
use Rattle.xm_writer.proofs.writing.all_names_value.Goals as goal

pub loop-i-preserved : goal.loop-i-preserved
loop-i-preserved c =
    let names = texts_of c.args.names.now in
    let lt : c.loop-i.i < length names = omega (arith, length-map c.args.names.now (λ text. text.items), c.loop-i-test.true) in
    let more : take (c.loop-i.i + 1) names ≡ take c.loop-i.i names ++ name_at names c.loop-i.i ∷ [] = rw add-one (take-suc names c.loop-i.i [] lt) in
    grown c.loop-i.values.items c.push.new.self.items _ (string (name_at names c.loop-i.i)) c.in_ok-push.ensures.items (view-String c.in_ok-name.name ∙ ap string c.in_ok-name.ensures)
    ∙ ap (λ (ds : List Data). ds ++ string (name_at names c.loop-i.i) ∷ []) c.loop-i.invariant ∙ sym (ap (map string) more ∙ map_push string (take c.loop-i.i names) (name_at names c.loop-i.i))

pub returns : goal.returns
returns c =
    let whole = take_all c.loop-i.i (texts_of c.args.names.now) (omega (arith, length-map c.args.names.now (λ text. text.items))) in
    view-Array c.loop-i.values ∙ ap (λ (ds : List Data). array (items_of ds)) (c.loop-i.invariant ∙ ap (map string) whole)
