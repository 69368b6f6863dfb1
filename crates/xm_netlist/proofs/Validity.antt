-- What is read is valid.
use Rattle.std.proofs.Common.{◌≡◌, ℕ, zero, suc, ◌+◌, ◌≤◌, Bool, true, false, List, [], ◌∷◌, map, take, Option, Some, None, Result, Ok, Err, refl, sym, subst, ◌∙◌, codes, arith}
use Rattle.std.specs.Prelude.{⊤, IfOk, IfSome, not, option_map, slice_get}
use Rattle.std.specs.List.{flat_map, list_all}
use Rattle.std.proofs.lemmas.Bool.{and_from, not-true}
use Rattle.std.proofs.lemmas.List.{length-map, take-map}
use Rattle.std.proofs.lemmas.List.Folds.{list_all-append}
use Rattle.std.proofs.lemmas.Option.{slice_get-map}
use Rattle.serde_json.specs.Data.{Data, depth}
use Rattle.serde_json.specs.Find.{as_object, get}
use Rattle.xm_model.specs.Component.{Component}
use Rattle.xm_model.specs.Net.{HasPrim}
use Rattle.xm_model.specs.Steps.{◌>>=◌, check, demand, each}
use Rattle.xm_shape.specs.NamedNet.{NamedNet, NamedKind, NamedPrimitive, Port, channel_names, channels_of, fork, function, join, merge, ports_of, queue, sink, source, switch}
use Rattle.xm_shape.specs.Fault.{Fault, bad_name, same_name, shape, unknown_colour}
use Rattle.xm_json.specs.Path.{member_of, place_of}
use Rattle.xm_shape.specs.Gives.{Gives}
use Rattle.xm_json.specs.Lemmas.StepFacts.{bound, checked, passed, told_ok}
use Rattle.xm_json.specs.Holding.{each_holds, each_holds_from}
use Rattle.xm_shape.specs.Names.{Name, is_among, is_colour_name, is_name}
use Rattle.xm_shape.specs.Shape.{are_channels, named_net_in, net, primitive_at, rest_in, root_in, shaped, whole_member, whole_or_missing}
use Rattle.xm_shape.specs.declared.fault.DocFault.{DocFault}
use Rattle.xm_netlist.specs.Doc.{Doc}
use Rattle.xm_netlist.specs.Documented.{doc_of}
use Rattle.xm_netlist.specs.Numbered.{component_in, naming_in, net_of, primitive_numbered, check_wiring}
use Rattle.xm_netlist.specs.Reading.{doc_from, document_of, number_net}
use Rattle.xm_netlist.specs.Checks.{check_colour_name, check_colours, check_kind_colours, check_known, check_sizes, name_of, check_names, check_offered, check_primitive_colours, check_primitive_name, check_port_names}
use Rattle.xm_netlist.specs.Valid.{AreNames, DiffersIn, IsPart, IsValid, are_distinct}
use Rattle.xm_netlist.specs.declared.document.Document.{Document}
use Rattle.xm_netlist.proofs.Firsts.{differ_numbers, distinct_by, distinct_uses, formed_uses, numbered_by_uses, uses_numbered}
use Rattle.xm_netlist.proofs.Limited.{within_limits}
use Rattle.xm_netlist.proofs.Rising.{allow_rises}
use Rattle.xm_netlist.proofs.Shallow.{shallow_get}
use Rattle.xm_netlist.proofs.Wired.{well_wired}

-- ---- tests that had no fault

-- each test of a list held
holds_from : {A : Type 0} (f : ℕ → A → Result ⊤ Fault) (i : ℕ) (xs : List A) → each_holds_from f i xs ≡ Ok tt → (j k : ℕ) (x : A) → j ≡ i + k → slice_get xs k ≡ Some x → f j x ≡ Ok tt
holds_from f i [] e j k x is at = absurd cc
holds_from f i (y ∷ ys) e j zero x is at =
    let here = passed (f i y) (each_holds_from f (suc i) ys) tt e in
    let place : j ≡ i = omega arith in
    let item : y ≡ x = cc in
    rw (place, ← item) here.0
holds_from f i (y ∷ ys) e j (suc k) x is at = holds_from f (suc i) ys (passed (f i y) (each_holds_from f (suc i) ys) tt e).1 j k x (omega arith) at

pub holds_at : {A : Type 0} (f : ℕ → A → Result ⊤ Fault) (xs : List A) → each_holds f xs ≡ Ok tt → (k : ℕ) (x : A) → slice_get xs k ≡ Some x → f k x ≡ Ok tt
holds_at f xs e k x at = holds_from f 0 xs e k k x (omega arith) at

all_by : {A : Type 0} (p : A → Bool) (xs : List A) → ((k : ℕ) (x : A) → slice_get xs k ≡ Some x → p x ≡ true) → list_all p xs ≡ true
all_by p [] each = refl
all_by p (x ∷ xs) each = and_from (p x) (list_all p xs) (each 0 x refl) (all_by p xs (λ k y at. each (suc k) y at))

-- what stands at k in the image of a list
mapped : {A B : Type 0} (g : A → B) (found : Option A) (y : B) → option_map g found ≡ Some y → (x : A) × (found ≡ Some x) × (g x ≡ y)
mapped g None y e = absurd cc
mapped g (Some x) y e = (x, refl, cc)

mapped_at : {A B : Type 0} (g : A → B) (xs : List A) (k : ℕ) (y : B) → slice_get (map g xs) k ≡ Some y → (x : A) × (slice_get xs k ≡ Some x) × (g x ≡ y)
mapped_at g xs k y at = mapped g (slice_get xs k) y (sym (slice_get-map g xs k) ∙ at)

-- ---- names

record Named (is_formed : Name → Bool) (before : List Name) (n : Name) : Type 0 where
  pub formed : is_formed n ≡ true
  pub is_new : is_among before n ≡ false

check_colour_names : (draft : NamedNet) → each_holds (check_colour_name draft.colours) draft.colours ≡ Ok tt → (i : ℕ) (n : Name) → slice_get draft.colours i ≡ Some n → Named is_colour_name (take i draft.colours) n
check_colour_names draft e i n at =
    let path = place_of (codes "colours") i in
    let tests = passed (check (is_colour_name n) (bad_name path)) _ tt (holds_at (check_colour_name draft.colours) draft.colours e i n at) in
    record { formed = checked _ (bad_name path) tests.0; is_new = not-true _ (checked _ (same_name path) tests.1) }

are_colours : (draft : NamedNet) → each_holds (check_colour_name draft.colours) draft.colours ≡ Ok tt → AreNames is_colour_name draft.colours
are_colours draft e =
    record {
      formed = all_by is_colour_name draft.colours (λ i n at. (check_colour_names draft e i n at).formed);
      distinct = distinct_by draft.colours (λ i n at. (check_colour_names draft e i n at).is_new);
    }

record PartNamed (primitives : List NamedPrimitive) (i : ℕ) (primitive : NamedPrimitive) : Type 0 where
  pub name : Named is_name (map name_of (take i primitives)) primitive.name
  pub ports : check_port_names (place_of net i) (ports_of primitive.kind) ≡ Ok tt

check_primitive_names : (primitives : List NamedPrimitive) → each_holds (check_primitive_name primitives) primitives ≡ Ok tt → (i : ℕ) (primitive : NamedPrimitive) → slice_get primitives i ≡ Some primitive → PartNamed primitives i primitive
check_primitive_names primitives e i primitive at =
    let path = member_of (place_of net i) (codes "name") in
    let formed = passed (check (is_name primitive.name) (bad_name path)) _ tt (holds_at (check_primitive_name primitives) primitives e i primitive at) in
    let differs = passed (check (not (is_among (map name_of (take i primitives)) primitive.name)) (same_name path)) _ tt formed.1 in
    record { name = record { formed = checked _ (bad_name path) formed.0; is_new = not-true _ (checked _ (same_name path) differs.0) }; ports = differs.1 }

name_at : (primitives : List NamedPrimitive) → each_holds (check_primitive_name primitives) primitives ≡ Ok tt → (i : ℕ) (n : Name) → slice_get (map name_of primitives) i ≡ Some n → Named is_name (take i (map name_of primitives)) n
name_at primitives e i n at =
    let primitive = mapped_at name_of primitives i n at in
    let here = (check_primitive_names primitives e i primitive.0 primitive.1).name in
    rw (take-map name_of i primitives, ← primitive.2) here

are_prims : (primitives : List NamedPrimitive) → each_holds (check_primitive_name primitives) primitives ≡ Ok tt → AreNames is_name (map name_of primitives)
are_prims primitives e =
    record {
      formed = all_by is_name (map name_of primitives) (λ i n at. (name_at primitives e i n at).formed);
      distinct = distinct_by (map name_of primitives) (λ i n at. (name_at primitives e i n at).is_new);
    }

ports_formed : (path : List ℕ) (ports : List Port) → check_port_names path ports ≡ Ok tt → list_all is_name (map (λ (port : Port). port.1) ports) ≡ true
ports_formed path [] e = refl
ports_formed path (port ∷ ports) e =
    let fault = bad_name (member_of path port.0) in
    let tests = passed (check (is_name port.1) fault) (check_port_names path ports) tt e in
    and_from (is_name port.1) _ (checked _ fault tests.0) (ports_formed path ports tests.1)

uses_formed : (primitives : List NamedPrimitive) → ((i : ℕ) (primitive : NamedPrimitive) → slice_get primitives i ≡ Some primitive → list_all is_name (channels_of primitive) ≡ true) → list_all is_name (flat_map channels_of primitives) ≡ true
uses_formed [] each = refl
uses_formed (primitive ∷ primitives) each = list_all-append is_name (channels_of primitive) (flat_map channels_of primitives) ∙ and_from _ _ (each 0 primitive refl) (uses_formed primitives (λ i p at. each (suc i) p at))

are_channels_named : (primitives : List NamedPrimitive) → each_holds (check_primitive_name primitives) primitives ≡ Ok tt → AreNames is_name (channel_names primitives)
are_channels_named primitives e =
    record {
      formed = formed_uses is_name [] (flat_map channels_of primitives) refl (uses_formed primitives (λ i primitive at. ports_formed (place_of net i) (ports_of primitive.kind) (check_primitive_names primitives e i primitive at).ports));
      distinct = distinct_uses [] (flat_map channels_of primitives) refl;
    }

-- ---- sources

source_differs : (colours : List Name) (path : List ℕ) (ds : List Name) → each_holds (check_offered colours path ds) ds ≡ Ok tt → (list_all (is_among colours) ds ≡ true) × (are_distinct ds ≡ true)
source_differs colours path ds e =
    let at_place : (i : ℕ) (n : Name) → slice_get ds i ≡ Some n → (is_among colours n ≡ true) × (is_among (take i ds) n ≡ false) =
    λ i n at. (let tests = passed (check_known colours (place_of path i) n) _ tt (holds_at (check_offered colours path ds) ds e i n at) in
    (checked _ (unknown_colour (place_of path i)) tests.0, not-true _ (checked _ (same_name (place_of path i)) tests.1))) in
    (all_by (is_among colours) ds (λ i n at. (at_place i n at).0), distinct_by ds (λ i n at. (at_place i n at).1))

kind_differs : (channels colours : List Name) (path : List ℕ) (kind : NamedKind) → check_kind_colours colours path kind ≡ Ok tt → DiffersIn (component_in channels colours kind)
kind_differs channels colours path (source out ds mode) e = let facts = source_differs colours (member_of path (codes "colours")) ds e in differ_numbers colours ds facts.0 facts.1
kind_differs channels colours path (sink input mode) e = tt
kind_differs channels colours path (queue input out capacity initial) e = tt
kind_differs channels colours path (function input out table) e = tt
kind_differs channels colours path (fork input a b table_a table_b) e = tt
kind_differs channels colours path (join a b out pass) e = tt
kind_differs channels colours path (switch input a b to_a) e = tt
kind_differs channels colours path (merge a b out) e = tt

sources_differ : (draft : NamedNet) → each_holds (check_primitive_colours draft.colours) draft.primitives ≡ Ok tt → (p : ℕ) (m : Component) → HasPrim (net_of draft) p m → DiffersIn m
unfolding net_of
sources_differ draft e p m has =
    let primitive = mapped_at (primitive_numbered (channel_names draft.primitives) draft.colours) draft.primitives p m has in
    subst DiffersIn primitive.2 (kind_differs (channel_names draft.primitives) draft.colours (place_of net p) primitive.0.kind (holds_at (check_primitive_colours draft.colours) draft.primitives e p primitive.0 primitive.1))

-- ---- the tape and the proof

part_by : (found : Option Data) → whole_or_missing found ≡ true → IfSome found (λ d. depth d ≤ 126) → IfSome found IsPart
part_by None whole shallow = tt
part_by (Some d) whole shallow = record { shallow = shallow; whole = whole }

part_in : (k : List ℕ) (d : Data) → depth d ≤ 127 → whole_member k d ≡ Ok tt → IfSome (get k d) IsPart
unfolding whole_member
part_in k d shallow e = part_by (get k d) (checked (whole_or_missing (get k d)) k e) (shallow_get k d 126 shallow)

wholes : (d : Data) (draft : NamedNet) → named_net_in d ≡ Ok draft → (whole_member (codes "tape") d ≡ Ok tt) × (whole_member (codes "proof") d ≡ Ok tt)
unfolding named_net_in rest_in
wholes d draft e =
    let root = bound (shaped (root_in d)) _ draft e in
    let primitives = bound (each (λ i x. primitive_at root.0.version (place_of net i) x) root.0.items) _ draft root.2 in
    let rest = passed (shaped (rest_in primitives.0 root.0.allow d)) _ draft primitives.2 in
    let tests = told_ok shape (rest_in primitives.0 root.0.allow d) tt rest.0 in
    let channels = passed (check (are_channels primitives.0 root.0.allow) (codes "allow")) _ tt tests in
    passed (whole_member (codes "tape") d) (whole_member (codes "proof") d) tt channels.1

-- ---- the document

draft_is_valid : (draft : NamedNet) (tape proof : Option Data) → check_names draft ≡ Ok tt → check_colours draft ≡ Ok tt → check_sizes draft ≡ Ok tt → check_wiring (net_of draft) (naming_in draft) ≡ Ok tt → IfSome tape IsPart → IfSome proof IsPart
    → IsValid (doc_from draft tape proof)
unfolding check_names check_colours net_of naming_in
draft_is_valid draft tape proof are_named are_coloured are_limited is_wired tape_is proof_is =
    let names = passed (each_holds (check_colour_name draft.colours) draft.colours) _ tt are_named in
    let colours = passed (each_holds (check_primitive_colours draft.colours) draft.primitives) _ tt are_coloured in
    record {
      net = record { limits = within_limits draft are_limited are_coloured; wired = well_wired (net_of draft) (naming_in draft) is_wired };
      named = record { prims = length-map draft.primitives name_of ∙ sym (length-map draft.primitives (primitive_numbered (channel_names draft.primitives) draft.colours)); channels = refl; colours = refl };
      prims = are_prims draft.primitives names.1;
      channels = are_channels_named draft.primitives names.1;
      colours = are_colours draft names.0;
      numbered = rw (uses_numbered (channel_names draft.primitives) draft.colours draft.primitives) (numbered_by_uses (flat_map channels_of draft.primitives));
      sources = sources_differ draft colours.0;
      allow = allow_rises draft;
      tape = tape_is;
      proof = proof_is;
    }

pub document_is_valid : (d : Data) (doc : Doc) → document_of d ≡ Ok doc → depth d ≤ 127 → IsValid doc
unfolding document_of number_net
document_is_valid d doc e shallow =
    let draft = bound (named_net_in d) _ doc e in
    let names = passed (check_names draft.0) _ doc draft.2 in
    let colours = passed (check_colours draft.0) _ doc names.1 in
    let sizes = passed (check_sizes draft.0) _ doc colours.1 in
    let wires = passed (check_wiring (net_of draft.0) (naming_in draft.0)) _ doc sizes.1 in
    let whole = wholes d draft.0 draft.1 in
    let same : doc_from draft.0 (get (codes "tape") d) (get (codes "proof") d) ≡ doc = cc (wires.1) in
    subst IsValid same
    (draft_is_valid draft.0 (get (codes "tape") d) (get (codes "proof") d) names.0 colours.0 sizes.0 wires.0 (part_in (codes "tape") d shallow whole.0) (part_in (codes "proof") d shallow whole.1))

pub valid_from_gives : (r : Result Document DocFault) (d : Data) → Gives doc_of r (document_of d) → depth d ≤ 127 → IfOk r (λ x. IsValid (doc_of x))
valid_from_gives (Ok x) d e shallow = document_is_valid d (doc_of x) e shallow
valid_from_gives (Err f) d e shallow = tt
