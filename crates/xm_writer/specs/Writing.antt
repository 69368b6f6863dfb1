-- The canonical text of a document: compact, with members in byte order and defaults left out.
use Rattle.std.specs.Prelude.{ℕ, suc, List, [], ◌∷◌, ◌++◌, Bool, true, false, if◌then◌else◌, map, nat_eq, Option, Some, None, codes}
use Rattle.std.specs.List.{list_any}
use Rattle.serde_json.specs.Data.{Data, array, member, Members, no_members, number, object, put, string, unsigned}
use Rattle.serde_json.specs.View.{items_of}
use Rattle.serde_json.specs.Written.{compact_text}
use Rattle.xm_model.specs.Component.{Component, Fork, Function, Join, Merge, Queue, Sink, Source, Switch}
use Rattle.xm_model.specs.TextLines.{name_at}
use Rattle.xm_model.specs.Naming.{Allowed, Naming}
use Rattle.xm_model.specs.declared.primitive.Side.{Side}
use Rattle.xm_model.specs.declared.primitive.Side.TheVariants.{A, B}
use Rattle.xm_model.specs.declared.primitive.SinkMode.{SinkMode}
use Rattle.xm_model.specs.declared.primitive.SinkMode.TheVariants as sink_mode
use Rattle.xm_model.specs.declared.primitive.SourceMode.{SourceMode}
use Rattle.xm_model.specs.declared.primitive.SourceMode.TheVariants as source_mode
use Rattle.xm_shape.specs.Names.{Name}
use Rattle.xm_shape.specs.Versions.{fair_version, first_version, initial_version}
use Rattle.xm_netlist.specs.Doc.{Doc}
use Rattle.xm_netlist.specs.Numbered.{marked_from}

abbrev pub name_data : List Name → ℕ → Data
name_data names i = string (name_at names i)

abbrev pub names_data : List Name → List ℕ → Data
names_data names is = array (items_of (map (name_data names) is))

-- a member that is left out where it is the default
abbrev pub member_if : List ℕ → Option Data → Members → Members
member_if k None ms = ms
member_if k (Some d) ms = member k d ms

abbrev pub source_mode_data : SourceMode → Option Data
source_mode_data source_mode.Keep = None
source_mode_data source_mode.Eager = Some (string (codes "eager"))
source_mode_data source_mode.Free = Some (string (codes "free"))
source_mode_data source_mode.Fair = Some (string (codes "fair"))

abbrev pub sink_mode_data : SinkMode → Option Data
sink_mode_data sink_mode.Keep = None
sink_mode_data sink_mode.Free = Some (string (codes "free"))

abbrev pub side_data : Side → Data
side_data A = string (codes "a")
side_data B = string (codes "b")

abbrev pub initial_data : List Name → List ℕ → Option Data
initial_data colours [] = None
initial_data colours (d ∷ ds) = Some (names_data colours (d ∷ ds))

-- the members of a map, with those of the colours from d on that it changes
abbrev pub changes : List Name → ℕ → List ℕ → Members → Members
changes colours d [] ms = ms
changes colours d (e ∷ es) ms =
    changes colours (suc d) es (if nat_eq d e then ms else put (name_at colours d) (name_data colours e) ms)

-- the object, or nothing where it has no members
abbrev pub object_if : Members → Option Data
object_if no_members = None
object_if (member k d ms) = Some (object (member k d ms))

abbrev pub table_data : List Name → List ℕ → Option Data
table_data colours images = object_if (changes colours 0 images no_members)

abbrev pub component_data : Naming → Name → Component → Data
component_data names name (Source out colours mode) = object
    (member (codes "colours") (names_data names.colours colours)
    (member (codes "kind") (string (codes "source"))
    (member_if (codes "mode") (source_mode_data mode)
    (member (codes "name") (string name)
    (member (codes "out") (name_data names.channels out) no_members)))))
component_data names name (Sink input mode) = object
    (member (codes "in") (name_data names.channels input)
    (member (codes "kind") (string (codes "sink"))
    (member_if (codes "mode") (sink_mode_data mode)
    (member (codes "name") (string name) no_members))))
component_data names name (Queue input out capacity initial) = object
    (member (codes "capacity") (number (unsigned capacity))
    (member (codes "in") (name_data names.channels input)
    (member_if (codes "initial") (initial_data names.colours initial)
    (member (codes "kind") (string (codes "queue"))
    (member (codes "name") (string name)
    (member (codes "out") (name_data names.channels out) no_members))))))
component_data names name (Function input out table) = object
    (member (codes "in") (name_data names.channels input)
    (member (codes "kind") (string (codes "function"))
    (member_if (codes "map") (table_data names.colours table)
    (member (codes "name") (string name)
    (member (codes "out") (name_data names.channels out) no_members)))))
component_data names name (Fork input a b table_a table_b) = object
    (member (codes "a") (name_data names.channels a)
    (member (codes "b") (name_data names.channels b)
    (member (codes "in") (name_data names.channels input)
    (member (codes "kind") (string (codes "fork"))
    (member_if (codes "map_a") (table_data names.colours table_a)
    (member_if (codes "map_b") (table_data names.colours table_b)
    (member (codes "name") (string name) no_members)))))))
component_data names name (Join a b out pass) = object
    (member (codes "a") (name_data names.channels a)
    (member (codes "b") (name_data names.channels b)
    (member (codes "kind") (string (codes "join"))
    (member (codes "name") (string name)
    (member (codes "out") (name_data names.channels out)
    (member (codes "pass") (side_data pass) no_members))))))
component_data names name (Switch input a b to_a) = object
    (member (codes "a") (name_data names.channels a)
    (member (codes "b") (name_data names.channels b)
    (member (codes "in") (name_data names.channels input)
    (member (codes "kind") (string (codes "switch"))
    (member (codes "name") (string name)
    (member (codes "to_a") (names_data names.colours (marked_from 0 to_a)) no_members))))))
component_data names name (Merge a b out) = object
    (member (codes "a") (name_data names.channels a)
    (member (codes "b") (name_data names.channels b)
    (member (codes "kind") (string (codes "merge"))
    (member (codes "name") (string name)
    (member (codes "out") (name_data names.channels out) no_members)))))

-- the primitives from number p on
abbrev pub prims_data : Naming → ℕ → List Component → List Data
prims_data names p [] = []
prims_data names p (m ∷ ms) = component_data names (name_at names.prims p) m ∷ prims_data names (suc p) ms

-- the entries by the names of their channels
abbrev pub entries_data : Naming → List Allowed → Members → Members
entries_data names [] ms = ms
entries_data names (e ∷ es) ms =
    entries_data names es (put (name_at names.channels e.channel) (names_data names.colours e.colours) ms)

abbrev pub allow_data : Naming → List Allowed → Option Data
allow_data names entries = object_if (entries_data names entries no_members)

-- the least version that serves: that of fair sources where one is, else that of first packets where a queue has some
abbrev pub is_fair : Component → Bool
is_fair (Source out colours source_mode.Fair) = true
is_fair _ = false

abbrev pub has_packets : Component → Bool
has_packets (Queue input out capacity (d ∷ ds)) = true
has_packets _ = false

abbrev pub version_of : List Component → ℕ
version_of prims =
    if list_any is_fair prims then fair_version
    else (if list_any has_packets prims then initial_version else first_version)

unfoldable pub data_of : Doc → Data
data_of doc = object
    (member_if (codes "allow") (allow_data doc.names doc.allow)
    (member (codes "colours") (array (items_of (map string doc.names.colours)))
    (member (codes "net") (array (items_of (prims_data doc.names 0 doc.net.prims)))
    (member_if (codes "proof") doc.proof
    (member_if (codes "tape") doc.tape
    (member (codes "version") (number (unsigned (version_of doc.net.prims))) no_members))))))

-- ended by a newline
abbrev pub text_of : Doc → List ℕ
text_of doc = compact_text (data_of doc) ++ 10 ∷ []
