-- A written document nests no deeper than is read, has no float, and its names are text.
use Rattle.std.proofs.Common.{◌≡◌, ℕ, suc, ◌<◌, ◌≤◌, Bool, true, false, List, [], ◌∷◌, length, map, Option, Some, None, refl, sym, subst, arith}
use Rattle.std.specs.Prelude.{◌&&◌, IfSome, nat_le, nat_lt}
use Rattle.std.specs.List.{All, list_all}
use Rattle.std.specs.Str.{IsUtf8}
use Rattle.std.proofs.lemmas.Bool.{and_parts}
use Rattle.std.proofs.lemmas.Bool.Decides.{nat_tests}
use Rattle.std.proofs.lemmas.List.Sums.{AllPass-from_list_all}
use Rattle.std.proofs.lemmas.List.Elements.{All-weaker}
use Rattle.std.proofs.lemmas.Str.{IsUtf8-from_ascii}
use Rattle.std.proofs.lemmas.Str.Ascii.{IsAscii-from_all}
use Rattle.serde_json.specs.Data.{Data, Items, Members, array, boolean, depth, float, item, items_depth, member, members_depth, negative, no_items, no_members, null, number, object, string, unsigned}
use Rattle.serde_json.specs.Read.{read}
use Rattle.serde_json.specs.View.{items_of}
use Rattle.serde_json.specs.Written.{has_float, items_have_float, members_have_float}
use Rattle.xm_model.specs.TextLines.{name_at}
use Rattle.xm_model.specs.Component.{Component, Fork, Function, Join, Merge, Queue, Sink, Source, Switch}
use Rattle.xm_model.specs.Naming.{Naming}
use Rattle.xm_model.specs.declared.primitive.Side.{Side}
use Rattle.xm_model.specs.declared.primitive.Side.TheVariants.{A, B}
use Rattle.xm_model.specs.declared.primitive.SinkMode.{SinkMode}
use Rattle.xm_model.specs.declared.primitive.SinkMode.TheVariants as sink_mode
use Rattle.xm_model.specs.declared.primitive.SourceMode.{SourceMode}
use Rattle.xm_model.specs.declared.primitive.SourceMode.TheVariants as source_mode
use Rattle.xm_shape.specs.NamedNet.{Table}
use Rattle.xm_shape.specs.Names.{Name, is_colour_name, is_name, is_name_byte, is_word_byte}
use Rattle.xm_json.specs.WholeNumbers.{has_whole, items_have_whole, members_have_whole}
use Rattle.xm_netlist.specs.Doc.{Doc}
use Rattle.xm_netlist.specs.Lemmas.Json.{json_known}
use Rattle.xm_netlist.specs.Numbered.{marked_from}
use Rattle.xm_netlist.specs.Reading.{document_in, document_of}
use Rattle.xm_netlist.specs.Valid.{AreNames, IsPart, IsValid}
use Rattle.xm_writer.specs.Texts.{HasTexts}
use Rattle.xm_writer.specs.Writing.{component_data, data_of, initial_data, member_if, names_data, object_if, prims_data, side_data, sink_mode_data, source_mode_data, table_data, version_of}
use Rattle.xm_writer.proofs.Again.{data_is}
use Rattle.xm_writer.proofs.AgainAllow.{entry_table, names_data-texts, texts_data}
use Rattle.xm_writer.proofs.AgainMaps.{changes-table, members_from, table_of}

-- ---- names are text

name_byte : (c : ℕ) → is_name_byte c ≡ true → c < 128
name_byte c e = grind (arith, nat_tests)

word_byte : (c : ℕ) → is_word_byte c ≡ true → c < 128
word_byte c e = grind (arith, nat_tests)

texts_by : (is_formed : Name → Bool) (names : List Name) → ((n : Name) → is_formed n ≡ true → IsUtf8 n) → AreNames is_formed names → All IsUtf8 names
texts_by is_formed names one are = All-weaker (λ n. is_formed n ≡ true) IsUtf8 one names (AllPass-from_list_all is_formed names are.formed)

is_text : (test : ℕ → Bool) (n : Name) → ((c : ℕ) → test c ≡ true → c < 128) → list_all test n ≡ true → IsUtf8 n
is_text test n small e = IsUtf8-from_ascii n (IsAscii-from_all n (All-weaker (λ c. test c ≡ true) (λ c. c < 128) small n (AllPass-from_list_all test n e)))

name_text : (n : Name) → is_name n ≡ true → IsUtf8 n
name_text n e = is_text is_name_byte n name_byte ((and_parts (nat_lt 0 (length n) && nat_le (length n) 32) (list_all is_name_byte n) e).1)

colour_text : (n : Name) → is_colour_name n ≡ true → IsUtf8 n
colour_text n e = is_text is_word_byte n word_byte ((and_parts (nat_lt 0 (length n) && nat_le (length n) 32) (list_all is_word_byte n) e).1)

pub has_texts : (doc : Doc) → IsValid doc → HasTexts doc.names
has_texts doc valid = record { prims = texts_by is_name doc.names.prims name_text valid.prims; channels = texts_by is_name doc.names.channels name_text valid.channels; colours = texts_by is_colour_name doc.names.colours colour_text valid.colours }

-- ---- whole numbers are no floats

mutual
  no_float : (d : Data) → has_whole d ≡ true → has_float d ≡ false
  no_float null h = refl
  no_float (boolean b) h = refl
  no_float (number (unsigned n)) h = refl
  no_float (number (negative z)) h = refl
  no_float (number (float x)) h = absurd cc
  no_float (string s) h = refl
  no_float (array ds) h = no_floats ds h
  no_float (object ms) h = no_float_members ms h

  no_floats : (ds : Items) → items_have_whole ds ≡ true → items_have_float ds ≡ false
  no_floats no_items h = refl
  no_floats (item d ds) h = let parts = and_parts (has_whole d) (items_have_whole ds) h in rw (no_float d parts.0) (no_floats ds parts.1)

  no_float_members : (ms : Members) → members_have_whole ms ≡ true → members_have_float ms ≡ false
  no_float_members no_members h = refl
  no_float_members (member k d ms) h = let parts = and_parts (has_whole d) (members_have_whole ms) h in rw (no_float d parts.0) (no_float_members ms parts.1)

-- ---- values that nest no deeper than n, and have no float

pub record IsShallow (n : ℕ) (d : Data) : Type 0 where
  pub low : depth d ≤ n
  pub plain : has_float d ≡ false

record AreShallow (n : ℕ) (ms : Members) : Type 0 where
  low : members_depth ms ≤ n
  plain : members_have_float ms ≡ false

one_more : (n : ℕ) (k : List ℕ) (d : Data) (ms : Members) → IsShallow n d → AreShallow n ms → AreShallow n (member k d ms)
one_more n k d ms here rest = record { low = omega arith; plain = rw (here.plain, rest.plain) refl }

one_if : (n : ℕ) (k : List ℕ) (o : Option Data) (ms : Members) → IfSome o (IsShallow n) → AreShallow n ms → AreShallow n (member_if k o ms)
one_if n k None ms here rest = rest
one_if n k (Some d) ms here rest = one_more n k d ms here rest

is_object : (n m : ℕ) (ms : Members) → m ≡ suc n → AreShallow n ms → IsShallow m (object ms)
is_object n m ms e h = record { low = omega arith; plain = h.plain }

-- a text, a number and a list of texts
texts_shallow : (names : List Name) → (items_depth (items_of (map string names)) ≡ 0) × (items_have_float (items_of (map string names)) ≡ false)
texts_shallow [] = (refl, refl)
texts_shallow (n ∷ names) = let h = texts_shallow names in (rw (h.0) refl, h.1)

list_shallow : (names : List Name) → IsShallow 1 (texts_data names)
list_shallow names = let h = texts_shallow names in let e = h.0 in record { low = omega arith; plain = h.1 }

names_shallow : (names : List Name) (is : List ℕ) → IsShallow 1 (names_data names is)
names_shallow names is = subst (IsShallow 1) (sym (names_data-texts names is)) (list_shallow (map (name_at names) is))

images_shallow : (t : Table) → AreShallow 0 (members_from string t)
images_shallow [] = record { low = omega arith; plain = refl }
images_shallow (e ∷ t) = one_more 0 e.0 (string e.1) (members_from string t) (record { low = omega arith; plain = refl }) (images_shallow t)

table_shallow : (colours : List Name) (images : List ℕ) → IfSome (table_data colours images) (IsShallow 1)
table_shallow colours images = rw (changes-table colours images) (by_entries (table_of colours images))
  where
    by_entries : (t : Table) → IfSome (object_if (members_from string t)) (IsShallow 1)
    by_entries [] = tt
    by_entries (e ∷ t) = is_object 0 1 (members_from string (e ∷ t)) refl (images_shallow (e ∷ t))

source_mode_shallow : (mode : SourceMode) → IfSome (source_mode_data mode) (IsShallow 1)
source_mode_shallow source_mode.Keep = tt
source_mode_shallow source_mode.Eager = record { low = omega arith; plain = refl }
source_mode_shallow source_mode.Free = record { low = omega arith; plain = refl }
source_mode_shallow source_mode.Fair = record { low = omega arith; plain = refl }

sink_mode_shallow : (mode : SinkMode) → IfSome (sink_mode_data mode) (IsShallow 1)
sink_mode_shallow sink_mode.Keep = tt
sink_mode_shallow sink_mode.Free = record { low = omega arith; plain = refl }

side_shallow : (side : Side) → IsShallow 1 (side_data side)
side_shallow A = record { low = omega arith; plain = refl }
side_shallow B = record { low = omega arith; plain = refl }

initial_shallow : (colours : List Name) (ds : List ℕ) → IfSome (initial_data colours ds) (IsShallow 1)
initial_shallow colours [] = tt
initial_shallow colours (d ∷ ds) = names_shallow colours (d ∷ ds)

none : AreShallow 1 no_members
none = record { low = omega arith; plain = refl }

text : (s : List ℕ) → IsShallow 1 (string s)
text s = record { low = omega arith; plain = refl }

whole_number : (n c : ℕ) → IsShallow n (number (unsigned c))
whole_number n c = record { low = omega arith; plain = refl }

none_within : (n : ℕ) → AreShallow n no_members
none_within n = record { low = omega arith; plain = refl }

component_shallow : (names : Naming) (name : Name) (m : Component) → IsShallow 2 (component_data names name m)
component_shallow names name (Source out colours mode) =
    is_object 1 2 _ refl (one_more 1 _ _ _ (names_shallow names.colours colours) (one_more 1 _ _ _ (text _) (one_if 1 _ (source_mode_data mode) _ (source_mode_shallow mode) (one_more 1 _ _ _ (text _) (one_more 1 _ _ _ (text _) none)))))
component_shallow names name (Sink input mode) = is_object 1 2 _ refl (one_more 1 _ _ _ (text _) (one_more 1 _ _ _ (text _) (one_if 1 _ (sink_mode_data mode) _ (sink_mode_shallow mode) (one_more 1 _ _ _ (text _) none))))
component_shallow names name (Queue input out capacity initial) =
    is_object 1 2 _ refl (one_more 1 _ _ _ (whole_number 1 capacity) (one_more 1 _ _ _ (text _) (one_if 1 _ (initial_data names.colours initial) _ (initial_shallow names.colours initial) (one_more 1 _ _ _ (text _) (one_more 1 _ _ _ (text _) (one_more 1 _ _ _ (text _) none))))))
component_shallow names name (Function input out table) =
    is_object 1 2 _ refl (one_more 1 _ _ _ (text _) (one_more 1 _ _ _ (text _) (one_if 1 _ (table_data names.colours table) _ (table_shallow names.colours table) (one_more 1 _ _ _ (text _) (one_more 1 _ _ _ (text _) none)))))
component_shallow names name (Fork input a b ta tb) =
    is_object 1 2 _ refl (one_more 1 _ _ _ (text _) (one_more 1 _ _ _ (text _) (one_more 1 _ _ _ (text _) (one_more 1 _ _ _ (text _) (one_if 1 _ (table_data names.colours ta) _ (table_shallow names.colours ta) (one_if 1 _ (table_data names.colours tb) _ (table_shallow names.colours tb) (one_more 1 _ _ _ (text _) none)))))))
component_shallow names name (Join a b out pass) =
    is_object 1 2 _ refl (one_more 1 _ _ _ (text _) (one_more 1 _ _ _ (text _) (one_more 1 _ _ _ (text _) (one_more 1 _ _ _ (text _) (one_more 1 _ _ _ (text _) (one_more 1 _ _ _ (side_shallow pass) none))))))
component_shallow names name (Switch input a b to_a) =
    is_object 1 2 _ refl (one_more 1 _ _ _ (text _) (one_more 1 _ _ _ (text _) (one_more 1 _ _ _ (text _) (one_more 1 _ _ _ (text _) (one_more 1 _ _ _ (text _) (one_more 1 _ _ _ (names_shallow names.colours (marked_from 0 to_a)) none))))))
component_shallow names name (Merge a b out) =
    is_object 1 2 _ refl (one_more 1 _ _ _ (text _) (one_more 1 _ _ _ (text _) (one_more 1 _ _ _ (text _) (one_more 1 _ _ _ (text _) (one_more 1 _ _ _ (text _) none)))))

prims_shallow : (names : Naming) (p : ℕ) (ms : List Component) → (items_depth (items_of (prims_data names p ms)) ≤ 2) × (items_have_float (items_of (prims_data names p ms)) ≡ false)
prims_shallow names p [] = (omega arith, refl)
prims_shallow names p (m ∷ ms) =
    let here = component_shallow names (name_at names.prims p) m in
    let rest = prims_shallow names (suc p) ms in
    let few = rest.0 in (omega arith, rw (here.plain, rest.1) refl)

entries_shallow : (t : List (Name × List Name)) → AreShallow 1 (members_from texts_data t)
entries_shallow [] = none
entries_shallow (e ∷ t) = one_more 1 e.0 (texts_data e.1) (members_from texts_data t) (list_shallow e.1) (entries_shallow t)

deeper : (n m : ℕ) (d : Data) → n ≤ m → IsShallow n d → IsShallow m d
deeper n m d le h = record { low = omega arith; plain = h.plain }

allow_shallow : (t : List (Name × List Name)) → IfSome (object_if (members_from texts_data t)) (IsShallow 126)
allow_shallow [] = tt
allow_shallow (e ∷ t) = deeper 2 126 (object (members_from texts_data (e ∷ t))) (omega arith) (is_object 1 2 (members_from texts_data (e ∷ t)) refl (entries_shallow (e ∷ t)))

part_shallow : (o : Option Data) → IfSome o IsPart → IfSome o (IsShallow 126)
part_shallow None h = tt
part_shallow (Some d) h = record { low = h.shallow; plain = no_float d h.whole }

pub data_shallow : (doc : Doc) (valid : IsValid doc) → IsShallow 127 (data_of doc)
data_shallow doc valid =
    let prims = prims_shallow doc.names 0 doc.net.prims in
    let deep = prims.0 in
    subst (IsShallow 127) (sym (data_is doc valid)) (is_object 126 127 _ (omega arith) (one_if 126 _ (object_if (members_from texts_data (entry_table doc.names doc.allow []))) _ (allow_shallow (entry_table doc.names doc.allow []))
    (one_more 126 _ _ _ (deeper 1 126 (texts_data doc.names.colours) (omega arith) (list_shallow doc.names.colours)) (one_more 126 _ (array (items_of (prims_data doc.names 0 doc.net.prims))) _ (record { low = omega arith; plain = prims.1 }) (one_if 126 _ doc.proof _ (part_shallow doc.proof valid.proof) (one_if 126 _ doc.tape _ (part_shallow doc.tape valid.tape) (one_more 126 _ _ _ (whole_number 126 (version_of doc.net.prims)) (none_within 126))))))))

-- ---- the text as JSON

pub document_in-known : (bytes : List ℕ) (d : Data) → IsUtf8 bytes → read bytes ≡ Some d → document_in bytes ≡ document_of d
unfolding document_in
document_in-known bytes d utf8 is = rw (json_known bytes d utf8 is) refl
