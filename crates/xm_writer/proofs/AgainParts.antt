-- Primitives that are written are read as they were.
use Rattle.std.proofs.Common.{◌≡◌, ℕ, ◌≤◌, Bool, true, false, List, [], ◌∷◌, map, Ok, refl, ap, ◌∙◌, codes}
use Rattle.std.specs.Prelude.{nat_le}
use Rattle.std.proofs.lemmas.Bool.{le-leb}
use Rattle.serde_json.specs.Data.{object, string, no_members, member}
use Rattle.xm_model.specs.TextLines.{name_at}
use Rattle.xm_model.specs.Component.{Component, Fork, Function, Join, Merge, Queue, Sink, Source, Switch}
use Rattle.xm_model.specs.Naming.{Naming}
use Rattle.xm_model.specs.declared.primitive.Side.TheVariants.{A, B}
use Rattle.xm_model.specs.declared.primitive.SinkMode.TheVariants as sink_mode
use Rattle.xm_model.specs.declared.primitive.SourceMode.{SourceMode}
use Rattle.xm_model.specs.declared.primitive.SourceMode.TheVariants as source_mode
use Rattle.xm_shape.specs.NamedNet.{NamedKind, NamedPrimitive, Table, fork, function, join, merge, queue, sink, source, switch}
use Rattle.xm_json.specs.Path.{member_of, place_of}
use Rattle.xm_shape.specs.Names.{Name}
use Rattle.xm_shape.specs.Shape.{fork_in, function_in, map_entries_in, initial_member, join_in, merge_in, kind_text_in, primitive_at, primitive_of, pass_member, queue_in, sink_in, sink_mode_member, source_in, source_mode_member, switch_in, table_at, table_member}
use Rattle.xm_shape.specs.Versions.{fair_version, initial_version}
use Rattle.xm_json.specs.Members.{number_member, only, text_member, texts_member}
use Rattle.xm_json.specs.Values.{text_at, texts_at, texts_in}
use Rattle.xm_netlist.specs.Numbered.{marked_from}
use Rattle.xm_writer.specs.Writing.{component_data, has_packets, is_fair, member_if, names_data, object_if}
use Rattle.xm_writer.specs.Lemmas.Values.{list_of-items_of}
use Rattle.xm_writer.proofs.AgainAllow.{names_data-texts, texts_data}
use Rattle.xm_writer.proofs.AgainLists.{reads}
use Rattle.xm_writer.proofs.AgainMaps.{changes-table, members_from, table_of}

-- the names of colours, or of channels, with these numbers
abbrev pub named_by : List Name → List ℕ → List Name
named_by names is = map (name_at names) is

-- what is read of a component that was written
abbrev pub kind_read : Naming → Component → NamedKind
kind_read names (Source out colours mode) = source (name_at names.channels out) (named_by names.colours colours) mode
kind_read names (Sink input mode) = sink (name_at names.channels input) mode
kind_read names (Queue input out capacity initial) = queue (name_at names.channels input) (name_at names.channels out) capacity (named_by names.colours initial)
kind_read names (Function input out table) = function (name_at names.channels input) (name_at names.channels out) (table_of names.colours table)
kind_read names (Fork input a b table_a table_b) = fork (name_at names.channels input) (name_at names.channels a) (name_at names.channels b) (table_of names.colours table_a) (table_of names.colours table_b)
kind_read names (Join a b out pass) = join (name_at names.channels a) (name_at names.channels b) (name_at names.channels out) pass
kind_read names (Switch input a b to_a) = switch (name_at names.channels input) (name_at names.channels a) (name_at names.channels b) (named_by names.colours (marked_from 0 to_a))
kind_read names (Merge a b out) = merge (name_at names.channels a) (name_at names.channels b) (name_at names.channels out)

abbrev pub primitive_read : Naming → Name → Component → NamedPrimitive
primitive_read names name m = record { name = name; kind = kind_read names m }

-- ---- lists and maps

pub texts_again : (path : List ℕ) (names : List Name) → texts_at path (texts_data names) ≡ Ok names
unfolding texts_at texts_in
texts_again path names = rw list_of-items_of (reads (λ i d. text_at (place_of path i) d) string (λ n. n) 0 names (λ j k n e at. refl) ∙ ap Ok (map_same names))
  where
    map_same : (l : List Name) → map (λ n. n) l ≡ l
    map_same [] = refl
    map_same (n ∷ l) = ap (λ (r : List Name). n ∷ r) (map_same l)

pub names_again : (path : List ℕ) (names : List Name) (is : List ℕ) → texts_at path (names_data names is) ≡ Ok (named_by names is)
names_again path names is = rw (names_data-texts names is) (texts_again path (named_by names is))

images_read : (path : List ℕ) (t : Table) → map_entries_in path (members_from string t) ≡ Ok t
images_read path [] = refl
images_read path (e ∷ t) = rw (images_read path t) refl

table_again : (path : List ℕ) (t : Table) → table_at path (object (members_from string t)) ≡ Ok t
unfolding table_at
table_again path t = images_read path t

-- ---- primitives

-- the version has what the primitive needs
pub record Suits (version : ℕ) (m : Component) : Type 0 where
  pub fair : is_fair m ≡ true → fair_version ≤ version
  pub packets : has_packets m ≡ true → initial_version ≤ version

source_again : (version : ℕ) (path : List ℕ) (names : Naming) (name : Name) (out : ℕ) (colours : List ℕ) (mode : SourceMode) → (is_fair (Source out colours mode) ≡ true → fair_version ≤ version)
    → primitive_at version path (component_data names name (Source out colours mode)) ≡ Ok (primitive_read names name (Source out colours mode))
unfolding primitive_at kind_text_in primitive_of source_in text_member texts_member source_mode_member only
source_again version path names name out colours source_mode.Keep fair = rw names_again refl
source_again version path names name out colours source_mode.Eager fair = rw names_again refl
source_again version path names name out colours source_mode.Free fair = rw names_again refl
source_again version path names name out colours source_mode.Fair fair = rw (le-leb fair_version version (fair refl), names_again) refl

queue_again : (version : ℕ) (newer : Bool) (path : List ℕ) (names : Naming) (name : Name) (input out capacity : ℕ) (initial : List ℕ) → nat_le initial_version version ≡ newer → (has_packets (Queue input out capacity initial) ≡ true → initial_version ≤ version)
    → primitive_at version path (component_data names name (Queue input out capacity initial)) ≡ Ok (primitive_read names name (Queue input out capacity initial))
unfolding primitive_at kind_text_in primitive_of queue_in text_member number_member initial_member only
queue_again version true path names name input out capacity [] is packets = rw is refl
queue_again version false path names name input out capacity [] is packets = rw is refl
queue_again version newer path names name input out capacity (d ∷ ds) is packets = rw (le-leb initial_version version (packets refl), names_again) refl

function_again : (version : ℕ) (path : List ℕ) (name input out : Name) (t : Table)
    → primitive_at version path (object (member (codes "in") (string input) (member (codes "kind") (string (codes "function")) (member_if (codes "map") (object_if (members_from string t)) (member (codes "name") (string name) (member (codes "out") (string out) no_members))))))
    ≡ Ok (record { name = name; kind = function input out t })
unfolding primitive_at kind_text_in primitive_of function_in text_member table_member only
function_again version path name input out [] = refl
function_again version path name input out (e ∷ t) = rw (table_again (member_of path (codes "map")) (e ∷ t)) refl

fork_again : (version : ℕ) (path : List ℕ) (name input a b : Name) (ta tb : Table)
    → primitive_at version path (object (member (codes "a") (string a) (member (codes "b") (string b) (member (codes "in") (string input) (member (codes "kind") (string (codes "fork")) (member_if (codes "map_a") (object_if (members_from string ta)) (member_if (codes "map_b") (object_if (members_from string tb)) (member (codes "name") (string name) no_members))))))))
    ≡ Ok (record { name = name; kind = fork input a b ta tb })
unfolding primitive_at kind_text_in primitive_of fork_in text_member table_member only
fork_again version path name input a b [] [] = refl
fork_again version path name input a b [] (f ∷ tb) = rw (table_again (member_of path (codes "map_b")) (f ∷ tb)) refl
fork_again version path name input a b (e ∷ ta) [] = rw (table_again (member_of path (codes "map_a")) (e ∷ ta)) refl
fork_again version path name input a b (e ∷ ta) (f ∷ tb) = rw (table_again (member_of path (codes "map_a")) (e ∷ ta), table_again (member_of path (codes "map_b")) (f ∷ tb)) refl

pub part_again : (version : ℕ) (path : List ℕ) (names : Naming) (name : Name) (m : Component) → Suits version m → primitive_at version path (component_data names name m) ≡ Ok (primitive_read names name m)
unfolding primitive_at kind_text_in primitive_of sink_in join_in switch_in merge_in text_member texts_member sink_mode_member pass_member only
part_again version path names name (Source out colours mode) suits = source_again version path names name out colours mode suits.fair
part_again version path names name (Sink input sink_mode.Keep) suits = refl
part_again version path names name (Sink input sink_mode.Free) suits = refl
part_again version path names name (Queue input out capacity initial) suits = queue_again version (nat_le initial_version version) path names name input out capacity initial refl suits.packets
part_again version path names name (Function input out table) suits =
    rw (changes-table names.colours table) (function_again version path name (name_at names.channels input) (name_at names.channels out) (table_of names.colours table))
part_again version path names name (Fork input a b ta tb) suits =
    rw (changes-table names.colours ta, changes-table names.colours tb) (fork_again version path name (name_at names.channels input) (name_at names.channels a) (name_at names.channels b) (table_of names.colours ta) (table_of names.colours tb))
part_again version path names name (Join a b out A) suits = refl
part_again version path names name (Join a b out B) suits = refl
part_again version path names name (Switch input a b to_a) suits = rw names_again refl
part_again version path names name (Merge a b out) suits = refl
