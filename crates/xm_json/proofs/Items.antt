-- Lists of the code and the lists that contracts see.
use Rattle.std.proofs.Common.{◌≡◌, ℕ, Bool, List, [], ◌∷◌, map, String, Global, Bor, string_bytes, refl, ap, ap₂, sym}
use Rattle.std.specs.Prelude.{◌&&◌}
use Rattle.std.specs.List.{list_all, list_any}
use Rattle.std.specs.Map.{keys_of}
use Rattle.std.specs.Str.{bytes_eq}
use Rattle.serde_json.specs.Data.{Data}
use Rattle.serde_json.specs.View.{items_view, members_view, view}
use Rattle.serde_json.specs.declared.value.Value.{Value}
use Rattle.xm_json.specs.Lent.{lent_texts}
use Rattle.xm_json.specs.Lemmas.Lists.{list_any-map}
use Rattle.xm_json.specs.Members.{has_only}
use Rattle.xm_json.specs.Values.{list_of}

pub list_of-items_view : (vs : List Value) → list_of (items_view vs) ≡ map view vs
list_of-items_view [] = refl
list_of-items_view (v ∷ vs) = ap (λ (ds : List Data). view v ∷ ds) (list_of-items_view vs)

pub ruleset listed = (list_of-items_view)

pub has_only-keys : (names : List (Bor (List ℕ))) (es : List (String Global × Value))
    → list_all (λ k. list_any (λ n. bytes_eq (string_bytes k) n.now) names) (keys_of es) ≡ has_only (lent_texts names) (members_view es)
has_only-keys names [] = refl
has_only-keys names (e ∷ es) =
    ap₂ (λ (a b : Bool). a && b) (sym (list_any-map (bytes_eq (string_bytes e.0)) (λ n. n.now) names)) (has_only-keys names es)
