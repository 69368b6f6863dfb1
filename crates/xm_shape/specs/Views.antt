-- The code's net by its names, in plain lists.
use Rattle.std.specs.Prelude.{List, map, String, string_bytes}
use Rattle.std.specs.declared.alloc.Global.{Global}
use Rattle.serde_json.specs.View.{view}
use Rattle.xm_shape.specs.NamedNet as plain
use Rattle.xm_shape.specs.Names.{Name}
use Rattle.xm_shape.specs.declared.named_net.AllowEntry as code_entry
use Rattle.xm_shape.specs.declared.named_net.NamedNet as code_net
use Rattle.xm_shape.specs.declared.named_net.NamedKind as code_kind
use Rattle.xm_shape.specs.declared.named_net.NamedKind.TheVariants as kinds
use Rattle.xm_shape.specs.declared.named_net.MapEntry as code_map_entry
use Rattle.xm_shape.specs.declared.named_net.NamedPrimitive as code_primitive
use Rattle.xm_shape.specs.declared.shape.Root as code_root
use Rattle.xm_shape.specs.Shape as shape

abbrev pub names_of : List (String Global) → List Name
names_of texts = map string_bytes texts

abbrev pub map_entry_of : code_map_entry.MapEntry → Name × Name
map_entry_of image = (string_bytes image.colour, string_bytes image.image)

abbrev pub table_of : List code_map_entry.MapEntry → plain.Table
table_of images = map map_entry_of images

abbrev pub named_kind_of : code_kind.NamedKind → plain.NamedKind
named_kind_of (kinds.Source out colours mode) = plain.source (string_bytes out) (names_of colours.items) mode
named_kind_of (kinds.Sink input mode) = plain.sink (string_bytes input) mode
named_kind_of (kinds.Queue input out capacity initial) =
    plain.queue (string_bytes input) (string_bytes out) capacity (names_of initial.items)
named_kind_of (kinds.Function input out table) =
    plain.function (string_bytes input) (string_bytes out) (table_of table.items)
named_kind_of (kinds.Fork input a b table_a table_b) =
    plain.fork (string_bytes input) (string_bytes a) (string_bytes b) (table_of table_a.items) (table_of table_b.items)
named_kind_of (kinds.Join a b out pass) = plain.join (string_bytes a) (string_bytes b) (string_bytes out) pass
named_kind_of (kinds.Switch input a b to_a) =
    plain.switch (string_bytes input) (string_bytes a) (string_bytes b) (names_of to_a.items)
named_kind_of (kinds.Merge a b out) = plain.merge (string_bytes a) (string_bytes b) (string_bytes out)

abbrev pub named_primitive_of : code_primitive.NamedPrimitive → plain.NamedPrimitive
named_primitive_of primitive = record { name = string_bytes primitive.name; kind = named_kind_of primitive.kind }

abbrev pub allow_entry_of : code_entry.AllowEntry → plain.AllowEntry
allow_entry_of entry = record { channel = string_bytes entry.channel; colours = names_of entry.colours.items }

abbrev pub plain_net_of : code_net.NamedNet → plain.NamedNet
plain_net_of net = record {
  colours = names_of net.colours.items;
  primitives = map named_primitive_of net.primitives.items;
  allow = map allow_entry_of net.allow.items;
}

abbrev pub plain_root_of : code_root.Root → shape.Root
plain_root_of root = record {
  version = root.version;
  colours = names_of root.colours.items;
  items = map view root.items.now;
  allow = map allow_entry_of root.allow.items;
}
