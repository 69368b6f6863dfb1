-- Lemmas: names that are met one after another.
use Rattle.std.proofs.Common.{◌≡◌, Bool, true, false, cond, List, [], ◌∷◌, ◌++◌, String, Global, string_bytes, refl, sym, ap, ◌∙◌}
use Rattle.std.specs.Prelude.{not}
use Rattle.std.specs.List.{list_any}
use Rattle.std.specs.Str.{bytes_eq}
use Rattle.std.specs.String.{string_eq}
use Rattle.std.proofs.lemmas.Bool.{not-true}
use Rattle.std.proofs.lemmas.List.{map_push}
use Rattle.indexmap.specs.IndexSet.{insert_key}
use Rattle.xm_json.specs.Lemmas.Lists.{list_any-map}
use Rattle.xm_shape.specs.Views.{names_of}
use Rattle.xm_shape.specs.Names.{Name, first_uses, is_among}

map-cond : (b : Bool) (ks : List (String Global)) (k : String Global) → names_of (cond b ks (ks ++ k ∷ [])) ≡ cond b (names_of ks) (names_of ks ++ string_bytes k ∷ [])
map-cond true ks k = refl
map-cond false ks k = map_push string_bytes ks k

pub names_of-insert_key : (ks : List (String Global)) (k : String Global)
    → names_of (insert_key string_eq ks k) ≡ cond (is_among (names_of ks) (string_bytes k)) (names_of ks) (names_of ks ++ string_bytes k ∷ [])
names_of-insert_key ks k =
    rw (list_any-map (bytes_eq (string_bytes k)) string_bytes ks) (map-cond (list_any (string_eq k) ks) ks k)

-- the key k, which is the name n, was put into the set
pub noted : (ks new : List (String Global)) (k : String Global) (n : Name) → string_bytes k ≡ n → new ≡ insert_key string_eq ks k → names_of new ≡ first_uses (names_of ks) (n ∷ [])
noted ks new k n is step = rw (step, names_of-insert_key, is) refl

-- whether the key k, which is the name n, was new
pub is_told : (ks : List (String Global)) (k : String Global) (n : Name) (new : Bool) → string_bytes k ≡ n → new ≡ not (list_any (string_eq k) ks) → new ≡ not (is_among (names_of ks) n)
is_told ks k n new is told =
    told ∙ ap not (sym (list_any-map (bytes_eq (string_bytes k)) string_bytes ks)) ∙ ap (λ (m : Name). not (is_among (names_of ks) m)) is

pub is_kept : (ks after : List (String Global)) (k : String Global) (n : Name) (new : Bool) → string_bytes k ≡ n → new ≡ not (list_any (string_eq k) ks) → after ≡ insert_key string_eq ks k → new ≡ true
    → names_of after ≡ names_of ks ++ n ∷ []
is_kept ks after k n new is told step e =
    let absent : is_among (names_of ks) (string_bytes k) ≡ false = list_any-map (bytes_eq (string_bytes k)) string_bytes ks ∙ not-true _ (sym told ∙ e) in
    let so : names_of after ≡ names_of ks ++ string_bytes k ∷ [] = rw (step, names_of-insert_key, absent) refl in
    so ∙ ap (λ (m : Name). names_of ks ++ m ∷ []) is
