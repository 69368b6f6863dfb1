-- Inner (no public clause cites it): the tests of a draft, cut as the code makes them.
use Rattle.std.specs.Prelude.{ℕ, List, not, sum_by, ⊤, Result, codes}
use Rattle.xm_model.specs.Limits.{most_capacities}
use Rattle.xm_model.specs.Steps.{◌>>=◌, check}
use Rattle.xm_shape.specs.NamedNet.{NamedPrimitive, Table, ports_of}
use Rattle.xm_shape.specs.Fault.{Fault, bad_name, same_name}
use Rattle.xm_json.specs.Path.{member_of, place_of}
use Rattle.xm_json.specs.Holding.{each_holds}
use Rattle.xm_shape.specs.Names.{Name, is_among, is_colour_name, is_name}
use Rattle.xm_shape.specs.Shape.{net}
use Rattle.xm_shape.specs.declared.fault.Which.TheVariants as which
use Rattle.xm_netlist.specs.Checks.{capacity_in, check_queue_size, check_queue_packets, check_known, check_offered, check_port_names, check_size, check_table}

abbrev pub check_colour_after : List Name → ℕ → Name → Result ⊤ Fault
check_colour_after before i name = do
  _ ← check (is_colour_name name) (bad_name (place_of (codes "colours") i))
  check (not (is_among before name)) (same_name (place_of (codes "colours") i))

abbrev pub check_primitive_after : List Name → ℕ → NamedPrimitive → Result ⊤ Fault
check_primitive_after before i primitive = do
  _ ← check (is_name primitive.name) (bad_name (member_of (place_of net i) (codes "name")))
  _ ← check (not (is_among before primitive.name)) (same_name (member_of (place_of net i) (codes "name")))
  check_port_names (place_of net i) (ports_of primitive.kind)

abbrev pub check_offered_after : List Name → List ℕ → List Name → ℕ → Name → Result ⊤ Fault
check_offered_after colours path before i name = do
  _ ← check_known colours (place_of path i) name
  check (not (is_among before name)) (same_name (place_of path i))

-- both colours of a member of a map
abbrev pub check_map_entry : List Name → List ℕ → Name × Name → Result ⊤ Fault
check_map_entry colours path image = do
  _ ← check_known colours path image.0
  check_known colours (member_of path image.0) image.1

-- both maps of a fork
abbrev pub check_fork_colours : List Name → List ℕ → Table → Table → Result ⊤ Fault
check_fork_colours colours path table_a table_b = do
  _ ← check_table colours (member_of path (codes "map_a")) table_a
  check_table colours (member_of path (codes "map_b")) table_b

-- the colours of a source
abbrev pub check_all_offered : List Name → List ℕ → List Name → Result ⊤ Fault
check_all_offered colours path names = each_holds (check_offered colours path names) names

abbrev pub check_source_colours : List Name → List ℕ → List Name → Result ⊤ Fault
check_source_colours colours path names = check_all_offered colours (member_of path (codes "colours")) names

-- of the queues their capacities, these together, and their first packets
abbrev pub check_rooms : List NamedPrimitive → Result ⊤ Fault
check_rooms primitives = do
  _ ← each_holds check_queue_size primitives
  _ ← check_size which.CapacitySum 0 most_capacities (sum_by capacity_in primitives)
  each_holds check_queue_packets primitives
