-- Lemmas: values as the data that they stand for.
use Rattle.std.proofs.Common.{◌≡◌, List, [], ◌∷◌, String, Global, refl, ap, rules, string_bytes}
use Rattle.serde_json.specs.Data.{Data, string}
use Rattle.serde_json.specs.View.{items_of, view}
use Rattle.serde_json.specs.declared.value.Value.{the_lemmas}
use Rattle.serde_json.specs.declared.value.Value.{String as text_value}
use Rattle.xm_json.specs.Values.{list_of}

pub list_of-items_of : (ds : List Data) → list_of (items_of ds) ≡ ds
list_of-items_of [] = refl
list_of-items_of (d ∷ ds) = ap (λ (l : List Data). d ∷ l) (list_of-items_of ds)

pub view-String : (s : String Global) → view (text_value s) ≡ string (string_bytes s)
view-String s = search (rules, the_lemmas)
