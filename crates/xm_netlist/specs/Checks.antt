-- What is tested of a draft, test by test: names, then colours, then sizes.
use Rattle.std.specs.Prelude.{ℕ, List, [], ◌∷◌, ◌&&◌, not, nat_le, length, map, sum_by, take, ⊤, Result, Ok, codes}
use Rattle.xm_model.specs.Limits.{most_capacities, most_capacity, most_channels, most_colours, most_primitives, most_source_colours}
use Rattle.xm_model.specs.Steps.{◌>>=◌, check}
use Rattle.xm_shape.specs.NamedNet.{AllowEntry, NamedNet, NamedKind, NamedPrimitive, Port, Table, channel_names, fork, function, join, merge, ports_of, queue, sink, source, switch}
use Rattle.xm_shape.specs.Fault.{Fault, bad_name, limit, same_name, unknown_colour}
use Rattle.xm_json.specs.Path.{Path, member_of, place_of}
use Rattle.xm_json.specs.Holding.{each_holds}
use Rattle.xm_shape.specs.Names.{Name, is_among, is_colour_name, is_name}
use Rattle.xm_shape.specs.Shape.{net}
use Rattle.xm_shape.specs.declared.fault.Which.{Which}
use Rattle.xm_shape.specs.declared.fault.Which.TheVariants as which

-- ---- names: each colour, then of each primitive its name and its channels

-- the name at place i has its form, and none before it is the same
abbrev pub check_colour_name : List Name → ℕ → Name → Result ⊤ Fault
check_colour_name colours i name = do
  _ ← check (is_colour_name name) (bad_name (place_of (codes "colours") i))
  check (not (is_among (take i colours) name)) (same_name (place_of (codes "colours") i))

abbrev pub check_port_names : List ℕ → List Port → Result ⊤ Fault
check_port_names path [] = Ok tt
check_port_names path (port ∷ ports) = do
  _ ← check (is_name port.1) (bad_name (member_of path port.0))
  check_port_names path ports

abbrev pub name_of : NamedPrimitive → Name
name_of primitive = primitive.name

abbrev pub check_primitive_name : List NamedPrimitive → ℕ → NamedPrimitive → Result ⊤ Fault
check_primitive_name primitives i primitive = do
  _ ← check (is_name primitive.name) (bad_name (member_of (place_of net i) (codes "name")))
  _ ← check (not (is_among (map name_of (take i primitives)) primitive.name))
      (same_name (member_of (place_of net i) (codes "name")))
  check_port_names (place_of net i) (ports_of primitive.kind)

unfoldable pub check_names : NamedNet → Result ⊤ Fault
check_names draft = do
  _ ← each_holds (check_colour_name draft.colours) draft.colours
  each_holds (check_primitive_name draft.primitives) draft.primitives

-- ---- colours: of each primitive its lists and maps in the order of its members, then the entries of `allow`

abbrev pub check_known : List Name → List ℕ → Name → Result ⊤ Fault
check_known colours path name = check (is_among colours name) (unknown_colour path)

abbrev pub check_all_known : List Name → List ℕ → List Name → Result ⊤ Fault
check_all_known colours path names = each_holds (λ i name. check_known colours (place_of path i) name) names

-- a source's colours also differ
abbrev pub check_offered : List Name → List ℕ → List Name → ℕ → Name → Result ⊤ Fault
check_offered colours path names i name = do
  _ ← check_known colours (place_of path i) name
  check (not (is_among (take i names) name)) (same_name (place_of path i))

-- a fault at a colour that is mapped has the path of the map, and one at its image that of the member
abbrev pub check_table : List Name → List ℕ → Table → Result ⊤ Fault
check_table colours path [] = Ok tt
check_table colours path (image ∷ images) = do
  _ ← check_known colours path image.0
  _ ← check_known colours (member_of path image.0) image.1
  check_table colours path images

abbrev pub check_kind_colours : List Name → Path → NamedKind → Result ⊤ Fault
check_kind_colours colours path (source out ds mode) =
    each_holds (check_offered colours (member_of path (codes "colours")) ds) ds
check_kind_colours colours path (queue input out capacity initial) =
    check_all_known colours (member_of path (codes "initial")) initial
check_kind_colours colours path (function input out table) = check_table colours (member_of path (codes "map")) table
check_kind_colours colours path (fork input a b table_a table_b) = do
  _ ← check_table colours (member_of path (codes "map_a")) table_a
  check_table colours (member_of path (codes "map_b")) table_b
check_kind_colours colours path (switch input a b to_a) = check_all_known colours (member_of path (codes "to_a")) to_a
check_kind_colours colours path _ = Ok tt

abbrev pub check_primitive_colours : List Name → ℕ → NamedPrimitive → Result ⊤ Fault
check_primitive_colours colours i primitive = check_kind_colours colours (place_of net i) primitive.kind

abbrev pub check_entry_colours : List Name → ℕ → AllowEntry → Result ⊤ Fault
check_entry_colours colours i entry = check_all_known colours (member_of (codes "allow") entry.channel) entry.colours

unfoldable pub check_colours : NamedNet → Result ⊤ Fault
check_colours draft = do
  _ ← each_holds (check_primitive_colours draft.colours) draft.primitives
  each_holds (check_entry_colours draft.colours) draft.allow

-- ---- sizes, with the count that is out of its limits

abbrev pub check_size : Which → ℕ → ℕ → ℕ → Result ⊤ Fault
check_size it low high count = check (nat_le low count && nat_le count high) (limit it count)

abbrev pub check_offers : NamedKind → Result ⊤ Fault
check_offers (source out ds mode) = check_size which.SourceColours 1 most_source_colours (length ds)
check_offers _ = Ok tt

abbrev pub check_room : NamedKind → Result ⊤ Fault
check_room (queue input out capacity initial) = check_size which.Capacity 1 most_capacity capacity
check_room _ = Ok tt

-- no more than the capacity
abbrev pub check_packets : NamedKind → Result ⊤ Fault
check_packets (queue input out capacity initial) = check_size which.Initial 0 capacity (length initial)
check_packets _ = Ok tt

abbrev pub kind_capacity : NamedKind → ℕ
kind_capacity (queue input out capacity initial) = capacity
kind_capacity _ = 0

abbrev pub capacity_in : NamedPrimitive → ℕ
capacity_in primitive = kind_capacity primitive.kind

-- of a source, its colours
abbrev pub check_source_size : ℕ → NamedPrimitive → Result ⊤ Fault
check_source_size i primitive = check_offers primitive.kind

-- of a queue, its capacity
abbrev pub check_queue_size : ℕ → NamedPrimitive → Result ⊤ Fault
check_queue_size i primitive = check_room primitive.kind

-- of a queue, its first packets
abbrev pub check_queue_packets : ℕ → NamedPrimitive → Result ⊤ Fault
check_queue_packets i primitive = check_packets primitive.kind

unfoldable pub check_sizes : NamedNet → Result ⊤ Fault
check_sizes draft = do
  _ ← check_size which.Colours 1 most_colours (length draft.colours)
  _ ← check_size which.Primitives 1 most_primitives (length draft.primitives)
  _ ← check_size which.Channels 1 most_channels (length (channel_names draft.primitives))
  _ ← each_holds check_source_size draft.primitives
  _ ← each_holds check_queue_size draft.primitives
  _ ← check_size which.CapacitySum 0 most_capacities (sum_by capacity_in draft.primitives)
  each_holds check_queue_packets draft.primitives
