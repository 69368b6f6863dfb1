-- What the writer's loops have put in so far.
use Rattle.std.proofs.Common.{◌≡◌, ℕ, zero, suc, ◌+◌, ◌<◌, ◌≤◌, Bool, true, false, List, [], ◌∷◌, ◌++◌, length, get_or, drop, map, Some, String, Global, refl, sym, ap, ◌∙◌, add-one, append_assoc, append-nil}
use Rattle.std.specs.Str.{IsUtf8}
use Rattle.std.proofs.lemmas.Bool.{eq-eqb, ne_eqb}
use Rattle.std.proofs.lemmas.List.{drop_all, map_push}
use Rattle.std.proofs.lemmas.List.Elements.{All-head, All-tail}
use Rattle.std.proofs.lemmas.Str.{IsUtf8-nil}
use Rattle.serde_json.specs.Data.{Data, Members, object, put}
use Rattle.serde_json.specs.View.{members_view, view}
use Rattle.serde_json.specs.declared.value.Value.{Value}
use Rattle.xm_model.specs.TextLines.{name_at}
use Rattle.xm_model.specs.Component.{component_of}
use Rattle.xm_model.specs.Naming.{Naming, allowed_of}
use Rattle.xm_model.specs.declared.naming.Allow.{Allow}
use Rattle.xm_model.specs.declared.primitive.Primitive.{Primitive}
use Rattle.xm_shape.specs.Names.{Name}
use Rattle.xm_json.specs.Lemmas.Lists.{cut_at}
use Rattle.xm_netlist.specs.Numbered.{marked_from}
use Rattle.xm_writer.specs.Texts.{AreTexts}
use Rattle.xm_writer.specs.Writing.{changes, component_data, entries_data, name_data, names_data, object_if, prims_data}

pub name_is_text : (names : List Name) → AreTexts names → (i : ℕ) → IsUtf8 (name_at names i)
name_is_text [] all i = IsUtf8-nil
name_is_text (n ∷ ns) all zero = All-head IsUtf8 n ns all
name_is_text (n ∷ ns) all (suc i) = name_is_text ns (All-tail IsUtf8 n ns all) i

-- ---- the marks from i on

module _ (f : ℕ → Data) (marks : List Bool) (i : ℕ) (done total : List Data) where
  pub marked_more : i < length marks → true ≡ get_or marks i false → done ++ map f (marked_from i (drop i marks)) ≡ total → (done ++ f i ∷ []) ++ map f (marked_from (i + 1) (drop (i + 1) marks)) ≡ total
  marked_more lt is so_far =
      let one : done ++ map f (marked_from i (drop i marks)) ≡ done ++ f i ∷ map f (marked_from (i + 1) (drop (i + 1) marks)) = rw (cut_at marks i true false lt is, add-one) refl in
      append_assoc done (f i ∷ []) (map f (marked_from (i + 1) (drop (i + 1) marks))) ∙ sym one ∙ so_far

  pub marked_same : i < length marks → false ≡ get_or marks i false → done ++ map f (marked_from i (drop i marks)) ≡ total → done ++ map f (marked_from (i + 1) (drop (i + 1) marks)) ≡ total
  marked_same lt is so_far =
      let one : done ++ map f (marked_from i (drop i marks)) ≡ done ++ map f (marked_from (i + 1) (drop (i + 1) marks)) = rw (cut_at marks i false false lt is, add-one) refl in
      sym one ∙ so_far

  pub marked_all : length marks ≤ i → done ++ map f (marked_from i (drop i marks)) ≡ total → done ≡ total
  marked_all le so_far =
      let none : drop i marks ≡ [] = drop_all i marks le in
      let one : done ++ map f (marked_from i (drop i marks)) ≡ done = rw none (append-nil done) in
      sym one ∙ so_far

-- ---- the images of the colours from d on

module _ (colours : List Name) (images : List ℕ) (d e : ℕ) (ms total : Members) where
  pub changed_more : d < length images → e ≡ get_or images d 0 → (d ≡ e → ⊥) → changes colours d (drop d images) ms ≡ total → changes colours (d + 1) (drop (d + 1) images) (put (name_at colours d) (name_data colours e) ms) ≡ total
  changed_more lt is other so_far =
      let one : changes colours d (drop d images) ms ≡ changes colours (d + 1) (drop (d + 1) images) (put (name_at colours d) (name_data colours e) ms) = rw (cut_at images d e 0 lt is, add-one, changes, ne_eqb d e other) refl in
      sym one ∙ so_far

  pub changed_same : d < length images → e ≡ get_or images d 0 → d ≡ e → changes colours d (drop d images) ms ≡ total → changes colours (d + 1) (drop (d + 1) images) ms ≡ total
  changed_same lt is same so_far =
      let one : changes colours d (drop d images) ms ≡ changes colours (d + 1) (drop (d + 1) images) ms = rw (cut_at images d e 0 lt is, add-one, changes, eq-eqb d e same) refl in
      sym one ∙ so_far

pub changed_all : (colours : List Name) (images : List ℕ) (d : ℕ) (ms total : Members) → length images ≤ d → changes colours d (drop d images) ms ≡ total → ms ≡ total
changed_all colours images d ms total le so_far =
    let none : drop d images ≡ [] = drop_all d images le in
    let one : changes colours d (drop d images) ms ≡ ms = rw none refl in
    sym one ∙ so_far

pub object_if_members : (es : List (String Global × Value)) → (length es ≡ 0 → ⊥) → object_if (members_view es) ≡ Some (object (members_view es))
object_if_members [] some = absurd (some refl)
object_if_members (e ∷ es) some = refl

-- ---- the primitives from p on, and the entries from i on

module _ (names : Naming) where
  pub prims_more : (prims : List Primitive) (p : ℕ) (prim : Primitive) (done total : List Data) → p < length prims → prim ≡ get_or prims p prim → done ++ prims_data names p (map component_of (drop p prims)) ≡ total
      → (done ++ component_data names (name_at names.prims p) (component_of prim) ∷ []) ++ prims_data names (p + 1) (map component_of (drop (p + 1) prims)) ≡ total
  prims_more prims p prim done total lt is so_far =
      let here = component_data names (name_at names.prims p) (component_of prim) in
      let one : done ++ prims_data names p (map component_of (drop p prims)) ≡ done ++ here ∷ prims_data names (p + 1) (map component_of (drop (p + 1) prims)) = rw (cut_at prims p prim prim lt is, add-one) refl in
      append_assoc done (here ∷ []) (prims_data names (p + 1) (map component_of (drop (p + 1) prims))) ∙ sym one ∙ so_far

  pub prims_all : (prims : List Primitive) (p : ℕ) (done total : List Data) → length prims ≤ p → done ++ prims_data names p (map component_of (drop p prims)) ≡ total → done ≡ total
  prims_all prims p done total le so_far =
      let none : drop p prims ≡ [] = drop_all p prims le in
      let one : done ++ prims_data names p (map component_of (drop p prims)) ≡ done = rw none (append-nil done) in
      sym one ∙ so_far

  pub entries_more : (entries : List Allow) (i : ℕ) (e : Allow) (ms total : Members) → i < length entries → e ≡ get_or entries i e → entries_data names (map allowed_of (drop i entries)) ms ≡ total
      → entries_data names (map allowed_of (drop (i + 1) entries)) (put (name_at names.channels e.channel) (names_data names.colours e.colours.items) ms) ≡ total
  entries_more entries i e ms total lt is so_far =
      let one : entries_data names (map allowed_of (drop i entries)) ms ≡ entries_data names (map allowed_of (drop (i + 1) entries)) (put (name_at names.channels e.channel) (names_data names.colours e.colours.items) ms) = rw (cut_at entries i e e lt is) refl in
      sym one ∙ so_far

  pub entries_all : (entries : List Allow) (i : ℕ) (ms total : Members) → length entries ≤ i → entries_data names (map allowed_of (drop i entries)) ms ≡ total → ms ≡ total
  entries_all entries i ms total le so_far =
      let none : drop i entries ≡ [] = drop_all i entries le in
      let one : entries_data names (map allowed_of (drop i entries)) ms ≡ ms = rw none refl in
      sym one ∙ so_far

-- one more value, whatever it is
pub grown : (values new : List Value) (v : Value) (d : Data) → new ≡ values ++ v ∷ [] → view v ≡ d → map view new ≡ map view values ++ d ∷ []
grown values new v d is same = rw is (map_push view values v ∙ ap (λ (x : Data). map view values ++ x ∷ []) same)
