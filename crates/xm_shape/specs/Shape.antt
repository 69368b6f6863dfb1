-- The shape of a document: JSON whose members are there and have their form, and no others.
use Rattle.std.specs.Prelude.{ℕ, List, [], ◌∷◌, Bool, true, ◌&&◌, nat_le, if◌then◌else◌, ⊤, Option, Some, None, option_and_then, Result, Ok, codes}
use Rattle.std.specs.List.{list_all}
use Rattle.std.specs.Str.{bytes_eq}
use Rattle.serde_json.specs.Data.{Data, Members, no_members, member}
use Rattle.serde_json.specs.Find.{get, as_str, as_object}
use Rattle.xm_json.specs.Gives.{told_as}
use Rattle.xm_json.specs.Members.{number_member, only, optional, required, text_member, texts_member}
use Rattle.xm_json.specs.Path.{Path, member_of, place_of}
use Rattle.xm_json.specs.Values.{list_at, number_at, text_at, texts_at}
use Rattle.xm_json.specs.WholeNumbers.{has_whole}
use Rattle.xm_model.specs.declared.primitive.Side.{Side}
use Rattle.xm_model.specs.declared.primitive.Side.TheVariants.{A, B}
use Rattle.xm_model.specs.declared.primitive.SinkMode.{SinkMode}
use Rattle.xm_model.specs.declared.primitive.SinkMode.TheVariants as sink_mode
use Rattle.xm_model.specs.declared.primitive.SourceMode.{SourceMode}
use Rattle.xm_model.specs.declared.primitive.SourceMode.TheVariants as source_mode
use Rattle.xm_model.specs.Steps.{◌>>=◌, check, demand, each}
use Rattle.xm_shape.specs.NamedNet.{AllowEntry, NamedNet, NamedKind, NamedPrimitive, Table, channel_names, fork, function, join, merge, queue, sink, source, switch}
use Rattle.xm_shape.specs.Fault.{Fault, shape, unknown_kind}
use Rattle.xm_shape.specs.Names.{Name, is_among}
use Rattle.xm_shape.specs.Versions.{fair_version, first_version, initial_version, newest_version}

-- ---- maps of colours

-- the members of a map, which are texts
abbrev pub map_entries_in : Path → Members → Result Table Path
map_entries_in path no_members = Ok []
map_entries_in path (member k d ms) = do
  image ← text_at (member_of path k) d
  images ← map_entries_in path ms
  Ok ((k, image) ∷ images)

unfoldable pub table_at : Path → Data → Result Table Path
table_at path d = do
  ms ← demand (as_object d) path
  map_entries_in path ms

unfoldable pub table_member : Path → List ℕ → Data → Result Table Path
table_member path k d = optional table_at [] (member_of path k) k d

-- ---- modes and sides

abbrev pub source_mode_of : ℕ → List ℕ → Option SourceMode
source_mode_of version text =
    if bytes_eq text (codes "keep") then Some source_mode.Keep
    else (if bytes_eq text (codes "eager") then Some source_mode.Eager
    else (if bytes_eq text (codes "free") then Some source_mode.Free
    else (if nat_le fair_version version && bytes_eq text (codes "fair") then Some source_mode.Fair else None)))

abbrev pub sink_mode_of : List ℕ → Option SinkMode
sink_mode_of text =
    if bytes_eq text (codes "keep") then Some sink_mode.Keep
    else (if bytes_eq text (codes "free") then Some sink_mode.Free else None)

abbrev pub side_of : List ℕ → Option Side
side_of text = if bytes_eq text (codes "a") then Some A else (if bytes_eq text (codes "b") then Some B else None)

abbrev pub source_mode_at : ℕ → Path → Data → Result SourceMode Path
source_mode_at version path d = demand (option_and_then (source_mode_of version) (as_str d)) path

abbrev pub sink_mode_at : Path → Data → Result SinkMode Path
sink_mode_at path d = demand (option_and_then sink_mode_of (as_str d)) path

abbrev pub side_at : Path → Data → Result Side Path
side_at path d = demand (option_and_then side_of (as_str d)) path

unfoldable pub source_mode_member : ℕ → Path → Data → Result SourceMode Path
source_mode_member version path d =
    optional (source_mode_at version) source_mode.Keep (member_of path (codes "mode")) (codes "mode") d

unfoldable pub sink_mode_member : Path → Data → Result SinkMode Path
sink_mode_member path d = optional sink_mode_at sink_mode.Keep (member_of path (codes "mode")) (codes "mode") d

unfoldable pub pass_member : Path → Data → Result Side Path
pass_member path d = required side_at (member_of path (codes "pass")) (codes "pass") d

-- ---- the kinds: the members in the order of their table, and no others

unfoldable pub source_in : ℕ → Path → Data → Result NamedKind Path
source_in version path d = do
  out ← text_member path (codes "out") d
  colours ← texts_member path (codes "colours") d
  mode ← source_mode_member version path d
  _ ← only path (codes "colours" ∷ codes "kind" ∷ codes "mode" ∷ codes "name" ∷ codes "out" ∷ []) d
  Ok (source out colours mode)

unfoldable pub sink_in : Path → Data → Result NamedKind Path
sink_in path d = do
  input ← text_member path (codes "in") d
  mode ← sink_mode_member path d
  _ ← only path (codes "in" ∷ codes "kind" ∷ codes "mode" ∷ codes "name" ∷ []) d
  Ok (sink input mode)

-- the packets that a queue begins with, from the version on that has them
unfoldable pub initial_member : ℕ → Path → Data → Result (List Name) Path
initial_member version path d =
    if nat_le initial_version version
    then optional texts_at [] (member_of path (codes "initial")) (codes "initial") d
    else Ok []

abbrev pub queue_members : ℕ → List (List ℕ)
queue_members version =
    if nat_le initial_version version
    then codes "capacity" ∷ codes "in" ∷ codes "initial" ∷ codes "kind" ∷ codes "name" ∷ codes "out" ∷ []
    else codes "capacity" ∷ codes "in" ∷ codes "kind" ∷ codes "name" ∷ codes "out" ∷ []

unfoldable pub queue_in : ℕ → Path → Data → Result NamedKind Path
queue_in version path d = do
  input ← text_member path (codes "in") d
  out ← text_member path (codes "out") d
  capacity ← number_member path (codes "capacity") d
  initial ← initial_member version path d
  _ ← only path (queue_members version) d
  Ok (queue input out capacity initial)

unfoldable pub function_in : Path → Data → Result NamedKind Path
function_in path d = do
  input ← text_member path (codes "in") d
  out ← text_member path (codes "out") d
  table ← table_member path (codes "map") d
  _ ← only path (codes "in" ∷ codes "kind" ∷ codes "map" ∷ codes "name" ∷ codes "out" ∷ []) d
  Ok (function input out table)

abbrev pub fork_members : List (List ℕ)
fork_members =
    codes "a" ∷ codes "b" ∷ codes "in" ∷ codes "kind" ∷ codes "map_a" ∷ codes "map_b" ∷ codes "name" ∷ []

unfoldable pub fork_in : Path → Data → Result NamedKind Path
fork_in path d = do
  input ← text_member path (codes "in") d
  a ← text_member path (codes "a") d
  b ← text_member path (codes "b") d
  table_a ← table_member path (codes "map_a") d
  table_b ← table_member path (codes "map_b") d
  _ ← only path fork_members d
  Ok (fork input a b table_a table_b)

unfoldable pub join_in : Path → Data → Result NamedKind Path
join_in path d = do
  a ← text_member path (codes "a") d
  b ← text_member path (codes "b") d
  out ← text_member path (codes "out") d
  pass ← pass_member path d
  _ ← only path (codes "a" ∷ codes "b" ∷ codes "kind" ∷ codes "name" ∷ codes "out" ∷ codes "pass" ∷ []) d
  Ok (join a b out pass)

unfoldable pub switch_in : Path → Data → Result NamedKind Path
switch_in path d = do
  input ← text_member path (codes "in") d
  a ← text_member path (codes "a") d
  b ← text_member path (codes "b") d
  to_a ← texts_member path (codes "to_a") d
  _ ← only path (codes "a" ∷ codes "b" ∷ codes "in" ∷ codes "kind" ∷ codes "name" ∷ codes "to_a" ∷ []) d
  Ok (switch input a b to_a)

unfoldable pub merge_in : Path → Data → Result NamedKind Path
merge_in path d = do
  a ← text_member path (codes "a") d
  b ← text_member path (codes "b") d
  out ← text_member path (codes "out") d
  _ ← only path (codes "a" ∷ codes "b" ∷ codes "kind" ∷ codes "name" ∷ codes "out" ∷ []) d
  Ok (merge a b out)

-- the kinds that there are
pub data Kind : Type 0 where
  is_source : Kind
  is_sink : Kind
  is_queue : Kind
  is_function : Kind
  is_fork : Kind
  is_join : Kind
  is_switch : Kind
  is_merge : Kind

abbrev pub kind_of : List ℕ → Option Kind
kind_of text =
    if bytes_eq text (codes "source") then Some is_source
    else (if bytes_eq text (codes "sink") then Some is_sink
    else (if bytes_eq text (codes "queue") then Some is_queue
    else (if bytes_eq text (codes "function") then Some is_function
    else (if bytes_eq text (codes "fork") then Some is_fork
    else (if bytes_eq text (codes "join") then Some is_join
    else (if bytes_eq text (codes "switch") then Some is_switch
    else (if bytes_eq text (codes "merge") then Some is_merge else None)))))))

abbrev pub kind_in : Kind → ℕ → Path → Data → Result NamedKind Path
kind_in is_source version path d = source_in version path d
kind_in is_sink version path d = sink_in path d
kind_in is_queue version path d = queue_in version path d
kind_in is_function version path d = function_in path d
kind_in is_fork version path d = fork_in path d
kind_in is_join version path d = join_in path d
kind_in is_switch version path d = switch_in path d
kind_in is_merge version path d = merge_in path d

-- the text of its kind, before it is known
unfoldable pub kind_text_in : Path → Data → Result (List ℕ) Path
kind_text_in path d = do
  _ ← demand (as_object d) path
  text_member path (codes "kind") d

-- its name, and the members of its kind
unfoldable pub primitive_of : Kind → ℕ → Path → Data → Result NamedPrimitive Path
primitive_of kind version path d = do
  name ← text_member path (codes "name") d
  named ← kind_in kind version path d
  Ok (record { name = name; kind = named })

-- a value that has not its form is a fault of shape
abbrev pub shaped : {A : Type 0} → Result A Path → Result A Fault
shaped step = told_as shape step

-- the primitive at path: an object of a known kind with a name and the members of its kind
unfoldable pub primitive_at : ℕ → Path → Data → Result NamedPrimitive Fault
primitive_at version path d = do
  text ← shaped (kind_text_in path d)
  kind ← demand (kind_of text) (unknown_kind (member_of path (codes "kind")))
  shaped (primitive_of kind version path d)

-- ---- the root

abbrev pub net : List ℕ
net = codes "net"

unfoldable pub version_in : Data → Result ℕ Path
version_in d = do
  version ← required number_at (codes "version") (codes "version") d
  _ ← check (nat_le first_version version && nat_le version newest_version) (codes "version")
  Ok version

unfoldable pub colours_in : Data → Result (List Name) Path
colours_in d = required texts_at (codes "colours") (codes "colours") d

unfoldable pub primitives_in : Data → Result (List Data) Path
primitives_in d = required list_at net net d

-- the members of `allow`, which are lists of texts
abbrev pub entries_in : Members → Result (List AllowEntry) Path
entries_in no_members = Ok []
entries_in (member k d ms) = do
  colours ← texts_at (member_of (codes "allow") k) d
  entries ← entries_in ms
  Ok (record { channel = k; colours = colours } ∷ entries)

abbrev pub entries_at : Path → Data → Result (List AllowEntry) Path
entries_at path d = do
  ms ← demand (as_object d) path
  entries_in ms

unfoldable pub allow_in : Data → Result (List AllowEntry) Path
allow_in d = optional entries_at [] (codes "allow") (codes "allow") d

abbrev pub root_members : List (List ℕ)
root_members = codes "allow" ∷ codes "colours" ∷ net ∷ codes "proof" ∷ codes "tape" ∷ codes "version" ∷ []

-- the members of the root that are read, with the primitives as they stand
pub record Root : Type 0 where
  pub version : ℕ
  pub colours : List Name
  pub items : List Data
  pub allow : List AllowEntry

-- they stand in this order, and no others
unfoldable pub root_in : Data → Result Root Path
root_in d = do
  _ ← demand (as_object d) (codes "-")
  version ← version_in d
  colours ← colours_in d
  items ← primitives_in d
  allow ← allow_in d
  _ ← only (codes "-") root_members d
  Ok (record { version = version; colours = colours; items = items; allow = allow })

-- each entry of `allow` is of a channel
abbrev pub are_channels : List NamedPrimitive → List AllowEntry → Bool
are_channels primitives entries = list_all (λ (e : AllowEntry). is_among (channel_names primitives) e.channel) entries

abbrev pub whole_or_missing : Option Data → Bool
whole_or_missing None = true
whole_or_missing (Some d) = has_whole d

-- the member k of the root is missing, or its numbers are whole
unfoldable pub whole_member : List ℕ → Data → Result ⊤ Path
whole_member k d = check (whole_or_missing (get k d)) k

-- the channels of `allow`, and the numbers within the tape and the proof
unfoldable pub rest_in : List NamedPrimitive → List AllowEntry → Data → Result ⊤ Path
rest_in primitives allow d = do
  _ ← check (are_channels primitives allow) (codes "allow")
  _ ← whole_member (codes "tape") d
  whole_member (codes "proof") d

-- the root, then each primitive, then the rest
unfoldable pub named_net_in : Data → Result NamedNet Fault
named_net_in d = do
  root ← shaped (root_in d)
  primitives ← each (λ i x. primitive_at root.version (place_of net i) x) root.items
  _ ← shaped (rest_in primitives root.allow d)
  Ok (record { colours = root.colours; primitives = primitives; allow = root.allow })
